-- What goes to the outputs in the steps of a run, and in the run.
use Rattle.std.proofs.Common.{ℕ, List, [], ◌++◌, ◌≡◌, ◌≢◌, Bool, true, false, Option, Some, None, append-nil, inl, inr, refl, sym, ap, subst, ◌∙◌}
use Rattle.mh_host.specs.Shelf.{Counted, Counts, Prints, Rose, Seen, Told}
use Rattle.mh_top.proofs.RunLaws.{told_as, told_same, told_then}
use Rattle.mh_top.specs.Run.{Complained, HasFailedPrint, IsFaultFree, OnlyComplains, Run, SameNames, Speaks, Spoke, WentOut}
use Rattle.mh_top.specs.Simulate.{PrintsAtMost}
use Rattle.mh_top.specs.SimSteps.{HasPrinted, Wrote}

abbrev pub run_from : Option Seen → Option Seen → Counts → Counts → Run
run_from x z c d = record { before = x; after = z; faults_before = c; faults_after = d }

-- nothing went out
pub went_nothing : (n k : ℕ) (a c : List ℕ) → c ≡ a → WentOut [] n k a c
went_nothing n k a c is = record { front = ([], ([], refl), is ∙ sym (append-nil a)); whole = λ quiet. is ∙ sym (append-nil a) }

-- all of it went out
went_all : (bytes : List ℕ) (n k : ℕ) (a c : List ℕ) → c ≡ a ++ bytes → WentOut bytes n k a c
went_all bytes n k a c is = record { front = (bytes, ([], sym (append-nil bytes)), is); whole = λ quiet. is }

-- the same, from what stood in the output before and after other calls
went_as : (bytes : List ℕ) (n m k j : ℕ) (a b c d : List ℕ) → b ≡ a → d ≡ c → m ≡ n → j ≡ k → WentOut bytes m k b c → WentOut bytes n j a d
went_as bytes n m k j a b c d before after from to h =
    let moved : WentOut bytes n k a c = subst (λ (x : List ℕ). WentOut bytes n k x c) before (subst (λ i. WentOut bytes i k b c) from h) in
    subst (λ (x : List ℕ). WentOut bytes n j a x) (sym after) (subst (λ i. WentOut bytes n i a c) (sym to) moved)

-- two facts of one change
told_both : (R Q : Seen → Seen → Type 0) (x z : Option Seen) → Told R x z → Told Q x z → Told (λ a c. R a c × Q a c) x z
told_both R Q None None r q = tt
told_both R Q None (Some z) r q = absurd r
told_both R Q (Some x) None r q = absurd r
told_both R Q (Some x) (Some z) r q = (r, q)

-- a complaint alone
pub speaks_alone : (line : List ℕ) (x z : Option Seen) (c d : Counts) → OnlyComplains line (run_from x z c d) → Speaks [] line (run_from x z c d)
speaks_alone line x z c d h =
    told_as (λ a b. Complained line c.complain d.complain a b × SameNames a b) (Spoke [] line c d) x z
    (λ a b s. record {
      output = went_nothing c.print d.print a.printed b.printed s.0.printed;
      error = record { front = s.0.front; whole = s.0.whole };
      names = s.1;
    }) (told_both (Complained line c.complain d.complain) SameNames x z h.complaint h.names)

-- ---- prints

pub printed_nothing : (x : Option Seen) (c : Counts) → HasPrinted [] true (run_from x x c c)
printed_nothing x c = record {
  fetch = refl;
  store = refl;
  complain = refl;
  kept = λ is. refl;
  rose = λ is. absurd (differ is);
  told = told_same (Wrote true []) x (λ a. record { printed = sym (append-nil a.printed); names = λ name. refl; complained = refl });
}
  where
    differ : true ≡ false → ⊥
    differ is = cc

wrote : (done : Bool) (text : List ℕ) (x z : Option Seen) → Told (Prints done text) x z → Told (Wrote done text) x z
wrote done text x z told = told_as (Prints done text) (Wrote done text) x z (λ a c p. record { printed = p.printed; names = p.holds; complained = p.complained }) told

pub printed_all : (text : List ℕ) (x z : Option Seen) (c d : Counts) → Told (Prints true text) x z → d.print ≡ c.print → d ≡ record c { print = d.print } → HasPrinted text true (run_from x z c d)
printed_all text x z c d told counted others = record {
  fetch = ap (λ (k : Counts). k.fetch) others;
  store = ap (λ (k : Counts). k.store) others;
  complain = ap (λ (k : Counts). k.complain) others;
  kept = λ is. counted;
  rose = λ is. absurd (differ is);
  told = wrote true text x z told;
}
  where
    differ : true ≡ false → ⊥
    differ is = cc

pub printed_front : (text : List ℕ) (x z : Option Seen) (c d : Counts) → text ≢ [] → Told (Prints false text) x z → Counted true c.print d.print → d ≡ record c { print = d.print } → HasPrinted text false (run_from x z c d)
printed_front text x z c d some told counted others = record {
  fetch = ap (λ (k : Counts). k.fetch) others;
  store = ap (λ (k : Counts). k.store) others;
  complain = ap (λ (k : Counts). k.complain) others;
  kept = λ is. absurd (differ is);
  rose = λ is. (some, counted.1);
  told = wrote false text x z told;
}
  where
    differ : false ≡ true → ⊥
    differ is = cc

-- ---- a print, and what comes after it

-- what was written, as what went out
written : (done : Bool) (text : List ℕ) (n k : ℕ) (a c : Seen) → (done ≡ false → Rose n k) → Wrote done text a c → WentOut text n k a.printed c.printed
written true text n k a c rose w = went_all text n k a.printed c.printed w.printed
written false text n k a c rose w = record { front = w.printed; whole = λ quiet. absurd (quiet (rose refl)) }

pub speaks_text : (text : List ℕ) (x z : Option Seen) (c d : Counts) → HasPrinted text true (run_from x z c d) → Speaks text [] (run_from x z c d)
speaks_text text x z c d h =
    told_as (Wrote true text) (Spoke text [] c d) x z
    (λ a b w. record {
      output = written true text c.print d.print a b (λ is. (h.rose is).1) w;
      error = went_nothing c.complain d.complain a.complained b.complained w.complained;
      names = w.names;
    }) h.told

pub speaks_both : (done : Bool) (text line : List ℕ) (x y z : Option Seen) (c d e : Counts) → HasPrinted text done (run_from x y c d) → OnlyComplains line (run_from y z d e) → Speaks text line (run_from x z c e)
speaks_both done text line x y z c d e p h =
    told_then (Wrote done text) (λ a b. Complained line d.complain e.complain a b × SameNames a b) (Spoke text line c e) x y z
    (λ a b f w s. record {
      output = went_as text c.print c.print d.print e.print a.printed a.printed b.printed f.printed refl s.0.printed refl h.faults.print (written done text c.print d.print a b (λ is. (p.rose is).1) w);
      error = went_as line c.complain d.complain e.complain e.complain a.complained b.complained f.complained f.complained w.complained refl p.complain refl (record { front = s.0.front; whole = s.0.whole });
      names = λ name. s.1 name ∙ w.names name;
    }) p.told (told_both (Complained line d.complain e.complain) SameNames y z h.complaint h.names)

-- the counts of both
pub free_both : (text line : List ℕ) (x y z : Option Seen) (c d e : Counts) → HasPrinted text true (run_from x y c d) → OnlyComplains line (run_from y z d e) → IsFaultFree (run_from x z c e)
free_both text line x y z c d e p h = record {
  fetch = h.faults.fetch ∙ p.fetch;
  store = h.faults.store ∙ p.store;
  print = h.faults.print ∙ p.kept refl;
}

pub failed_both : (text line : List ℕ) (x y z : Option Seen) (c d e : Counts) → HasPrinted text false (run_from x y c d) → OnlyComplains line (run_from y z d e) → HasFailedPrint (run_from x z c e)
failed_both text line x y z c d e p h = record {
  fetch = h.faults.fetch ∙ p.fetch;
  store = h.faults.store ∙ p.store;
  print = subst (Rose c.print) (sym h.faults.print) (p.rose refl).1;
}

pub at_most : (done : Bool) (text line : List ℕ) (x y z : Option Seen) (c d e : Counts) → HasPrinted text done (run_from x y c d) → OnlyComplains line (run_from y z d e) → PrintsAtMost text (run_from x z c e)
at_most true text line x y z c d e p h = inl (free_both text line x y z c d e p h)
at_most false text line x y z c d e p h = inr ((p.rose refl).0, failed_both text line x y z c d e p h)
