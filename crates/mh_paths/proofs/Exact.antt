-- What a walk finds of a set of paths is exact; and each way in which sets of paths are put together keeps that.
use Rattle.std.proofs.Common.{◌≡◌, Bool, true, false, not, ◌&&◌, ◌||◌, List, [], ◌∷◌, ◌++◌, refl, sym, ap, ◌∙◌, subst, ◌⊎◌, inl, inr, if◌then◌else◌}
use Rattle.std.specs.List.{list_any}
use Rattle.std.proofs.lemmas.List.Folds.{list_any-append}
use Rattle.mh_paths.specs.Paths.{Exit, Onward, Broken, Continued, Stopped, IsTurnsEnd, IsOut, Paths, Nothing, InRow, on, out, InTurn, next, turn_breaks, turn_stops, InLoop, no_more, turn, loop_breaks, loop_stops, reads_first}
use Rattle.mh_paths.specs.Walk.{Walk, only_exit, nothing, event_exit, row_exit, in_row, either, goes_on, turn_exit, in_turn, loop_exit, in_loop, event_walk, events_walk}

-- ---- truth values

or_cases : (a b : Bool) → (a || b) ≡ true → (a ≡ true) ⊎ (b ≡ true)
or_cases true b e = inl refl
or_cases false b e = inr e

or_left : (a b : Bool) → a ≡ true → (a || b) ≡ true
or_left true b e = refl
or_left false b e = cc

or_right : (a b : Bool) → b ≡ true → (a || b) ≡ true
or_right true b e = refl
or_right false b e = e

and_left : (a b : Bool) → (a && b) ≡ true → a ≡ true
and_left true b e = refl
and_left false b e = e

and_right : (a b : Bool) → (a && b) ≡ true → b ≡ true
and_right true b e = e
and_right false b e = cc

and_both : (a b : Bool) → a ≡ true → b ≡ true → (a && b) ≡ true
and_both true b e f = f
and_both false b e f = cc

none_left : (a b : Bool) → (a || b) ≡ false → a ≡ false
none_left true b e = e
none_left false b e = refl

none_right : (a b : Bool) → (a || b) ≡ false → b ≡ false
none_right true b e = cc
none_right false b e = e

none_both : (a b : Bool) → a ≡ false → b ≡ false → (a || b) ≡ false
none_both true b e f = e
none_both false b e f = f

not_true : (a : Bool) → not a ≡ true → a ≡ false
not_true true e = cc
not_true false e = refl

not_false : (a : Bool) → a ≡ false → not a ≡ true
not_false true e = cc
not_false false e = refl

read_step : (r a whole one none other : Bool) → whole ≡ (one || (not none && other)) →
    (if r then true else if a then false else whole) ≡ ((if r then true else if a then false else one) || (not (a || none) && other))
read_step true a whole one none other e = refl
read_step false true whole one none other e = refl
read_step false false whole one none other e = e

read_alike : (r a other : Bool) → (r || (not a && other)) ≡ (if r then true else if a then false else other)
read_alike true a other = refl
read_alike false true other = refl
read_alike false false other = refl

none_alike : (a other : Bool) → (not a && not other) ≡ not (a || other)
none_alike true other = refl
none_alike false other = refl

module _ {E : Type 0} (reads assigns : E → Bool) where
  -- ---- events in a row

  abbrev first_reads : List E → Bool
  first_reads = reads_first reads assigns

  abbrev assigned : List E → Bool
  assigned = list_any assigns

  reads_row : (u v : List E) → first_reads (u ++ v) ≡ (first_reads u || (not (assigned u) && first_reads v))
  reads_row [] v = refl
  reads_row (e ∷ u) v = read_step (reads e) (assigns e) (first_reads (u ++ v)) (first_reads u) (assigned u) (first_reads v) (reads_row u v)

  -- what is read in the first part, or in the second with nothing assigned in the first
  reads_in : (u v : List E) → first_reads (u ++ v) ≡ true → (first_reads u ≡ true) ⊎ ((assigned u ≡ false) × (first_reads v ≡ true))
  reads_in u v e = elim (or_cases (first_reads u) (not (assigned u) && first_reads v) (sym (reads_row u v) ∙ e)) [
    | inl f ↦ inl f
    | inr f ↦ inr (not_true (assigned u) (and_left (not (assigned u)) (first_reads v) f), and_right (not (assigned u)) (first_reads v) f)
  ]

  reads_here : (u v : List E) → first_reads u ≡ true → first_reads (u ++ v) ≡ true
  reads_here u v e = reads_row u v ∙ or_left (first_reads u) (not (assigned u) && first_reads v) e

  reads_later : (u v : List E) → assigned u ≡ false → first_reads v ≡ true → first_reads (u ++ v) ≡ true
  reads_later u v e f = reads_row u v ∙ or_right (first_reads u) (not (assigned u) && first_reads v) (and_both (not (assigned u)) (first_reads v) (not_false (assigned u) e) f)

  none_here : (u v : List E) → assigned (u ++ v) ≡ false → assigned u ≡ false
  none_here u v e = none_left (assigned u) (assigned v) (sym (list_any-append assigns u v) ∙ e)

  none_later : (u v : List E) → assigned (u ++ v) ≡ false → assigned v ≡ false
  none_later u v e = none_right (assigned u) (assigned v) (sym (list_any-append assigns u v) ∙ e)

  none_row : (u v : List E) → assigned u ≡ false → assigned v ≡ false → assigned (u ++ v) ≡ false
  none_row u v e f = list_any-append assigns u v ∙ none_both (assigned u) (assigned v) e f

  -- ---- what a walk finds of a set of paths

  pub record Some_path (P : Paths E) : Type 0 where
    pub path : List E
    pub exit : Exit
    pub is : P path exit

  pub record Reading (P : Paths E) : Type 0 where
    pub path : List E
    pub exit : Exit
    pub is : P path exit
    pub reads_first : first_reads path ≡ true

  pub record Missing (P : Paths E) (exit : Exit) : Type 0 where
    pub path : List E
    pub is : P path exit
    pub misses : assigned path ≡ false

  pub record Exact (found : Walk) (P : Paths E) : Type 0 where
    pub some : Some_path P
    pub read : found.reads ≡ true → Reading P
    pub seen : (path : List E) (exit : Exit) → P path exit → first_reads path ≡ true → found.reads ≡ true
    pub left : (exit : Exit) → found.missed exit ≡ true → Missing P exit
    pub missed : (path : List E) (exit : Exit) → P path exit → assigned path ≡ false → found.missed exit ≡ true

  -- ---- nothing

  nothing_left : (exit at : Exit) → only_exit exit at ≡ true → Missing (Nothing exit) at
  nothing_left Onward Onward e = record { path = []; is = (refl, refl); misses = refl }
  nothing_left Broken Broken e = record { path = []; is = (refl, refl); misses = refl }
  nothing_left Continued Continued e = record { path = []; is = (refl, refl); misses = refl }
  nothing_left Stopped Stopped e = record { path = []; is = (refl, refl); misses = refl }
  nothing_left _ _ e = cc

  only_itself : (exit : Exit) → only_exit exit exit ≡ true
  only_itself Onward = refl
  only_itself Broken = refl
  only_itself Continued = refl
  only_itself Stopped = refl

  pub nothing_exact : (exit : Exit) → Exact (nothing exit) (Nothing exit)
  nothing_exact exit = record {
    some = record { path = []; exit = exit; is = (refl, refl) };
    read = λ e. cc;
    seen = λ path end i e. cc;
    left = nothing_left exit;
    missed = λ path end i e. subst (λ x. only_exit exit x ≡ true) (sym i.1) (only_itself exit);
  }

  -- ---- one event, and events

  abbrev One : E → Paths E
  One event path exit = (path ≡ event ∷ []) × (exit ≡ Onward)

  event_reads : (event : E) → first_reads (event ∷ []) ≡ reads event
  event_reads event = elim (reads event) as (λ r. (if r then true else if assigns event then false else false) ≡ r) [
    | true ↦ refl
    | false ↦ elim (assigns event) as (λ a. (if a then false else false) ≡ false) [ true ↦ refl | false ↦ refl ]
  ]

  event_assigned : (event : E) → assigned (event ∷ []) ≡ assigns event
  event_assigned event = elim (assigns event) as (λ a. (a || false) ≡ a) [ true ↦ refl | false ↦ refl ]

  event_left : (event : E) (exit : Exit) → event_exit (assigns event) exit ≡ true → Missing (One event) exit
  event_left event Onward e = record { path = event ∷ []; is = (refl, refl); misses = event_assigned event ∙ not_true (assigns event) e }
  event_left event _ e = cc

  event_missed : (event : E) (exit : Exit) → exit ≡ Onward → assigns event ≡ false → event_exit (assigns event) exit ≡ true
  event_missed event exit is e = subst (λ x. event_exit (assigns event) x ≡ true) (sym is) (not_false (assigns event) e)

  pub event_exact : (event : E) → Exact (event_walk reads assigns event) (One event)
  event_exact event = record {
    some = record { path = event ∷ []; exit = Onward; is = (refl, refl) };
    read = λ e. record { path = event ∷ []; exit = Onward; is = (refl, refl); reads_first = event_reads event ∙ e };
    seen = λ path exit i e. sym (event_reads event) ∙ subst (λ p. first_reads p ≡ true) i.0 e;
    left = event_left event;
    missed = λ path exit i e. event_missed event exit i.1 (sym (event_assigned event) ∙ subst (λ p. assigned p ≡ false) i.0 e);
  }

  -- ---- one after another

  module _ (P Q : Paths E) where
    row_some : (path : List E) (exit : Exit) → P path exit → Some_path Q → Some_path (InRow P Q)
    row_some path Onward i q = record { path = path ++ q.path; exit = q.exit; is = on path q.path i q.is refl }
    row_some path Broken i q = record { path = path; exit = Broken; is = out i tt }
    row_some path Continued i q = record { path = path; exit = Continued; is = out i tt }
    row_some path Stopped i q = record { path = path; exit = Stopped; is = out i tt }

    row_read : (path : List E) (exit : Exit) → P path exit → first_reads path ≡ true → Some_path Q → Reading (InRow P Q)
    row_read path Onward i e q = record { path = path ++ q.path; exit = q.exit; is = on path q.path i q.is refl; reads_first = reads_here path q.path e }
    row_read path Broken i e q = record { path = path; exit = Broken; is = out i tt; reads_first = e }
    row_read path Continued i e q = record { path = path; exit = Continued; is = out i tt; reads_first = e }
    row_read path Stopped i e q = record { path = path; exit = Stopped; is = out i tt; reads_first = e }

    row_reads_later : Missing P Onward → Reading Q → Reading (InRow P Q)
    row_reads_later p q = record { path = p.path ++ q.path; exit = q.exit; is = on p.path q.path p.is q.is refl; reads_first = reads_later p.path q.path p.misses q.reads_first }

    row_misses : (exit : Exit) → Missing P Onward → Missing Q exit → Missing (InRow P Q) exit
    row_misses exit p q = record { path = p.path ++ q.path; is = on p.path q.path p.is q.is refl; misses = none_row p.path q.path p.misses q.misses }

    row_out : (exit : Exit) → IsOut exit → Missing P exit → Missing (InRow P Q) exit
    row_out exit o p = record { path = p.path; is = out p.is o; misses = p.misses }

  module _ {P Q : Paths E} (a b : Walk) (f : Exact a P) (g : Exact b Q) where
    row_found : (a.reads ≡ true) ⊎ ((a.missed Onward && b.reads) ≡ true) → Reading (InRow P Q)
    row_found (inl e) = let r : Reading P = f.read e in row_read P Q r.path r.exit r.is r.reads_first g.some
    row_found (inr e) = row_reads_later P Q (f.left Onward (and_left (a.missed Onward) b.reads e)) (g.read (and_right (a.missed Onward) b.reads e))

    row_seen : (path : List E) (exit : Exit) → InRow P Q path exit → first_reads path ≡ true → (a.reads || (a.missed Onward && b.reads)) ≡ true
    row_seen path exit (on one other i j is) e =
        elim (reads_in one other (subst (λ p. first_reads p ≡ true) is e)) [
          | inl r ↦ or_left a.reads (a.missed Onward && b.reads) (f.seen one Onward i r)
          | inr r ↦ or_right a.reads (a.missed Onward && b.reads) (and_both (a.missed Onward) b.reads (f.missed one Onward i r.0) (g.seen other exit j r.1))
        ]
    row_seen path exit (out i o) e = or_left a.reads (a.missed Onward && b.reads) (f.seen path exit i e)

    row_later : (exit : Exit) → IsOut exit → (a.missed exit ≡ true) ⊎ ((a.missed Onward && b.missed exit) ≡ true) → Missing (InRow P Q) exit
    row_later exit o (inl e) = row_out P Q exit o (f.left exit e)
    row_later exit o (inr e) = row_misses P Q exit (f.left Onward (and_left (a.missed Onward) (b.missed exit) e)) (g.left exit (and_right (a.missed Onward) (b.missed exit) e))

    row_left : (exit : Exit) → row_exit a b exit ≡ true → Missing (InRow P Q) exit
    row_left Onward e = row_misses P Q Onward (f.left Onward (and_left (a.missed Onward) (b.missed Onward) e)) (g.left Onward (and_right (a.missed Onward) (b.missed Onward) e))
    row_left Broken e = row_later Broken tt (or_cases (a.missed Broken) (a.missed Onward && b.missed Broken) e)
    row_left Continued e = row_later Continued tt (or_cases (a.missed Continued) (a.missed Onward && b.missed Continued) e)
    row_left Stopped e = row_later Stopped tt (or_cases (a.missed Stopped) (a.missed Onward && b.missed Stopped) e)

    row_both : (exit : Exit) → a.missed Onward ≡ true → b.missed exit ≡ true → row_exit a b exit ≡ true
    row_both Onward e h = and_both (a.missed Onward) (b.missed Onward) e h
    row_both Broken e h = or_right (a.missed Broken) (a.missed Onward && b.missed Broken) (and_both (a.missed Onward) (b.missed Broken) e h)
    row_both Continued e h = or_right (a.missed Continued) (a.missed Onward && b.missed Continued) (and_both (a.missed Onward) (b.missed Continued) e h)
    row_both Stopped e h = or_right (a.missed Stopped) (a.missed Onward && b.missed Stopped) (and_both (a.missed Onward) (b.missed Stopped) e h)

    row_first : (exit : Exit) → IsOut exit → a.missed exit ≡ true → row_exit a b exit ≡ true
    row_first Onward o e = absurd o
    row_first Broken o e = or_left (a.missed Broken) (a.missed Onward && b.missed Broken) e
    row_first Continued o e = or_left (a.missed Continued) (a.missed Onward && b.missed Continued) e
    row_first Stopped o e = or_left (a.missed Stopped) (a.missed Onward && b.missed Stopped) e

    row_missed : (path : List E) (exit : Exit) → InRow P Q path exit → assigned path ≡ false → row_exit a b exit ≡ true
    row_missed path exit (on one other i j is) e =
        let n : assigned (one ++ other) ≡ false = subst (λ p. assigned p ≡ false) is e in
        row_both exit (f.missed one Onward i (none_here one other n)) (g.missed other exit j (none_later one other n))
    row_missed path exit (out i o) e = row_first exit o (f.missed path exit i e)

    pub row_exact : Exact (in_row a b) (InRow P Q)
    row_exact = record {
      some = row_some P Q f.some.path f.some.exit f.some.is g.some;
      read = λ e. row_found (or_cases a.reads (a.missed Onward && b.reads) e);
      seen = row_seen;
      left = row_left;
      missed = row_missed;
    }

  -- ---- either of two

  module _ {P Q : Paths E} (a b : Walk) (f : Exact a P) (g : Exact b Q) where
    abbrev Either : Paths E
    Either path exit = P path exit ⊎ Q path exit

    either_some : Some_path P → Some_path Either
    either_some p = record { path = p.path; exit = p.exit; is = inl p.is }

    either_read : (a.reads ≡ true) ⊎ (b.reads ≡ true) → Reading Either
    either_read (inl e) = let r : Reading P = f.read e in record { path = r.path; exit = r.exit; is = inl r.is; reads_first = r.reads_first }
    either_read (inr e) = let r : Reading Q = g.read e in record { path = r.path; exit = r.exit; is = inr r.is; reads_first = r.reads_first }

    either_seen : (path : List E) (exit : Exit) → P path exit ⊎ Q path exit → first_reads path ≡ true → (a.reads || b.reads) ≡ true
    either_seen path exit (inl i) e = or_left a.reads b.reads (f.seen path exit i e)
    either_seen path exit (inr i) e = or_right a.reads b.reads (g.seen path exit i e)

    either_left : (exit : Exit) → (a.missed exit ≡ true) ⊎ (b.missed exit ≡ true) → Missing Either exit
    either_left exit (inl e) = let m : Missing P exit = f.left exit e in record { path = m.path; is = inl m.is; misses = m.misses }
    either_left exit (inr e) = let m : Missing Q exit = g.left exit e in record { path = m.path; is = inr m.is; misses = m.misses }

    either_missed : (path : List E) (exit : Exit) → P path exit ⊎ Q path exit → assigned path ≡ false → (a.missed exit || b.missed exit) ≡ true
    either_missed path exit (inl i) e = or_left (a.missed exit) (b.missed exit) (f.missed path exit i e)
    either_missed path exit (inr i) e = or_right (a.missed exit) (b.missed exit) (g.missed path exit i e)

    pub either_exact : Exact (either a b) Either
    either_exact = record {
      some = either_some f.some;
      read = λ e. either_read (or_cases a.reads b.reads e);
      seen = either_seen;
      left = λ exit e. either_left exit (or_cases (a.missed exit) (b.missed exit) e);
      missed = either_missed;
    }

  -- ---- a turn, and the rest of a loop

  -- a path of a turn that goes on, with nothing assigned
  record Goes (P : Paths E) : Type 0 where
    pub path : List E
    pub exit : Exit
    pub is : P path exit
    pub goes : IsTurnsEnd exit
    pub misses : assigned path ≡ false

  module _ {P : Paths E} (a : Walk) (f : Exact a P) where
    goes_left : goes_on a ≡ true → Goes P
    goes_left e = elim (or_cases (a.missed Onward) (a.missed Continued) e) [
      | inl h ↦ (let m : Missing P Onward = f.left Onward h in record { path = m.path; exit = Onward; is = m.is; goes = tt; misses = m.misses })
      | inr h ↦ (let m : Missing P Continued = f.left Continued h in record { path = m.path; exit = Continued; is = m.is; goes = tt; misses = m.misses })
    ]

    goes_missed : (path : List E) (exit : Exit) → P path exit → IsTurnsEnd exit → assigned path ≡ false → goes_on a ≡ true
    goes_missed path Onward i t e = or_left (a.missed Onward) (a.missed Continued) (f.missed path Onward i e)
    goes_missed path Continued i t e = or_right (a.missed Onward) (a.missed Continued) (f.missed path Continued i e)
    goes_missed path Broken i t e = absurd t
    goes_missed path Stopped i t e = absurd t

  module _ (P Q : Paths E) where
    turn_some : (path : List E) (exit : Exit) → P path exit → Some_path Q → Some_path (InTurn P Q)
    turn_some path Onward i q = record { path = path ++ q.path; exit = q.exit; is = next path q.path Onward i tt q.is refl }
    turn_some path Continued i q = record { path = path ++ q.path; exit = q.exit; is = next path q.path Continued i tt q.is refl }
    turn_some path Broken i q = record { path = path; exit = Onward; is = turn_breaks i refl }
    turn_some path Stopped i q = record { path = path; exit = Stopped; is = turn_stops i refl }

    turn_read : (path : List E) (exit : Exit) → P path exit → first_reads path ≡ true → Some_path Q → Reading (InTurn P Q)
    turn_read path Onward i e q = record { path = path ++ q.path; exit = q.exit; is = next path q.path Onward i tt q.is refl; reads_first = reads_here path q.path e }
    turn_read path Continued i e q = record { path = path ++ q.path; exit = q.exit; is = next path q.path Continued i tt q.is refl; reads_first = reads_here path q.path e }
    turn_read path Broken i e q = record { path = path; exit = Onward; is = turn_breaks i refl; reads_first = e }
    turn_read path Stopped i e q = record { path = path; exit = Stopped; is = turn_stops i refl; reads_first = e }

    turn_reads_later : Goes P → Reading Q → Reading (InTurn P Q)
    turn_reads_later p q = record { path = p.path ++ q.path; exit = q.exit; is = next p.path q.path p.exit p.is p.goes q.is refl; reads_first = reads_later p.path q.path p.misses q.reads_first }

    turn_misses : (exit : Exit) → Goes P → Missing Q exit → Missing (InTurn P Q) exit
    turn_misses exit p q = record { path = p.path ++ q.path; is = next p.path q.path p.exit p.is p.goes q.is refl; misses = none_row p.path q.path p.misses q.misses }

  module _ {P Q : Paths E} (a b : Walk) (f : Exact a P) (g : Exact b Q) where
    turn_found : (a.reads ≡ true) ⊎ ((goes_on a && b.reads) ≡ true) → Reading (InTurn P Q)
    turn_found (inl e) = let r : Reading P = f.read e in turn_read P Q r.path r.exit r.is r.reads_first g.some
    turn_found (inr e) = turn_reads_later P Q (goes_left a f (and_left (goes_on a) b.reads e)) (g.read (and_right (goes_on a) b.reads e))

    turn_seen : (path : List E) (exit : Exit) → InTurn P Q path exit → first_reads path ≡ true → (a.reads || (goes_on a && b.reads)) ≡ true
    turn_seen path exit (next one other end i t j is) e =
        elim (reads_in one other (subst (λ p. first_reads p ≡ true) is e)) [
          | inl r ↦ or_left a.reads (goes_on a && b.reads) (f.seen one end i r)
          | inr r ↦ or_right a.reads (goes_on a && b.reads) (and_both (goes_on a) b.reads (goes_missed a f one end i t r.0) (g.seen other exit j r.1))
        ]
    turn_seen path exit (turn_breaks i is) e = or_left a.reads (goes_on a && b.reads) (f.seen path Broken i e)
    turn_seen path exit (turn_stops i is) e = or_left a.reads (goes_on a && b.reads) (f.seen path Stopped i e)

    turn_later : (exit : Exit) → (goes_on a && b.missed exit) ≡ true → Missing (InTurn P Q) exit
    turn_later exit e = turn_misses P Q exit (goes_left a f (and_left (goes_on a) (b.missed exit) e)) (g.left exit (and_right (goes_on a) (b.missed exit) e))

    turn_left : (exit : Exit) → turn_exit a b exit ≡ true → Missing (InTurn P Q) exit
    turn_left Onward e = elim (or_cases (a.missed Broken) (goes_on a && b.missed Onward) e) [
      | inl h ↦ (let m : Missing P Broken = f.left Broken h in record { path = m.path; is = turn_breaks m.is refl; misses = m.misses })
      | inr h ↦ turn_later Onward h
    ]
    turn_left Stopped e = elim (or_cases (a.missed Stopped) (goes_on a && b.missed Stopped) e) [
      | inl h ↦ (let m : Missing P Stopped = f.left Stopped h in record { path = m.path; is = turn_stops m.is refl; misses = m.misses })
      | inr h ↦ turn_later Stopped h
    ]
    turn_left Broken e = turn_later Broken e
    turn_left Continued e = turn_later Continued e

    turn_goes : (exit : Exit) → goes_on a ≡ true → b.missed exit ≡ true → turn_exit a b exit ≡ true
    turn_goes Onward e h = or_right (a.missed Broken) (goes_on a && b.missed Onward) (and_both (goes_on a) (b.missed Onward) e h)
    turn_goes Stopped e h = or_right (a.missed Stopped) (goes_on a && b.missed Stopped) (and_both (goes_on a) (b.missed Stopped) e h)
    turn_goes Broken e h = and_both (goes_on a) (b.missed Broken) e h
    turn_goes Continued e h = and_both (goes_on a) (b.missed Continued) e h

    turn_missed : (path : List E) (exit : Exit) → InTurn P Q path exit → assigned path ≡ false → turn_exit a b exit ≡ true
    turn_missed path exit (next one other end i t j is) e =
        let n : assigned (one ++ other) ≡ false = subst (λ p. assigned p ≡ false) is e in
        turn_goes exit (goes_missed a f one end i t (none_here one other n)) (g.missed other exit j (none_later one other n))
    turn_missed path exit (turn_breaks i is) e =
        subst (λ x. turn_exit a b x ≡ true) (sym is) (or_left (a.missed Broken) (goes_on a && b.missed Onward) (f.missed path Broken i e))
    turn_missed path exit (turn_stops i is) e =
        subst (λ x. turn_exit a b x ≡ true) (sym is) (or_left (a.missed Stopped) (goes_on a && b.missed Stopped) (f.missed path Stopped i e))

    pub turn_exact : Exact (in_turn a b) (InTurn P Q)
    turn_exact = record {
      some = turn_some P Q f.some.path f.some.exit f.some.is g.some;
      read = λ e. turn_found (or_cases a.reads (goes_on a && b.reads) e);
      seen = turn_seen;
      left = turn_left;
      missed = turn_missed;
    }

  -- ---- a loop whose number of turns isn't known

  -- the events of its head, as a set of one path
  abbrev Straight : List E → Paths E
  Straight events path exit = (path ≡ events) × (exit ≡ Onward)

  straight_walk : (events : List E) → (events_walk reads assigns events).reads ≡ first_reads events
  straight_walk [] = refl
  straight_walk (e ∷ events) = ap (λ r. reads e || (not (assigns e) && r)) (straight_walk events) ∙ read_alike (reads e) (assigns e) (first_reads events)

  straight_missed : (events : List E) → (events_walk reads assigns events).missed Onward ≡ not (assigned events)
  straight_missed [] = refl
  straight_missed (e ∷ events) = ap (λ r. not (assigns e) && r) (straight_missed events) ∙ none_alike (assigns e) (assigned events)

  module _ {P : Paths E} (head : List E) (b : Walk) (g : Exact b P) where
    abbrev at_head : Walk
    at_head = events_walk reads assigns head

    -- a path of the body, with the head before it, and the head once more where another turn would come
    loop_body : (path : List E) (exit : Exit) → P path exit → first_reads path ≡ true → assigned head ≡ false → Reading (InLoop head P)
    loop_body path Onward i e n = record { path = head ++ (path ++ head); exit = Onward; is = turn path head Onward i tt (no_more refl refl) refl; reads_first = reads_later head (path ++ head) n (reads_here path head e) }
    loop_body path Continued i e n = record { path = head ++ (path ++ head); exit = Onward; is = turn path head Continued i tt (no_more refl refl) refl; reads_first = reads_later head (path ++ head) n (reads_here path head e) }
    loop_body path Broken i e n = record { path = head ++ path; exit = Onward; is = loop_breaks path i refl refl; reads_first = reads_later head path n e }
    loop_body path Stopped i e n = record { path = head ++ path; exit = Stopped; is = loop_stops path i refl refl; reads_first = reads_later head path n e }

    head_missed : assigned head ≡ false → at_head.missed Onward ≡ true
    head_missed e = straight_missed head ∙ not_false (assigned head) e

    head_none : at_head.missed Onward ≡ true → assigned head ≡ false
    head_none e = not_true (assigned head) (sym (straight_missed head) ∙ e)

    loop_found : (at_head.reads ≡ true) ⊎ ((at_head.missed Onward && b.reads) ≡ true) → Reading (InLoop head P)
    loop_found (inl e) = record { path = head; exit = Onward; is = no_more refl refl; reads_first = sym (straight_walk head) ∙ e }
    loop_found (inr e) =
        let r : Reading P = g.read (and_right (at_head.missed Onward) b.reads e) in
        loop_body r.path r.exit r.is r.reads_first (head_none (and_left (at_head.missed Onward) b.reads e))

    abbrev loop_reads : Type 0
    loop_reads = (at_head.reads || (at_head.missed Onward && b.reads)) ≡ true

    head_reads : first_reads head ≡ true → loop_reads
    head_reads e = or_left at_head.reads (at_head.missed Onward && b.reads) (straight_walk head ∙ e)

    body_reads : (one : List E) (end : Exit) → P one end → assigned head ≡ false → first_reads one ≡ true → loop_reads
    body_reads one end i n e = or_right at_head.reads (at_head.missed Onward && b.reads) (and_both (at_head.missed Onward) b.reads (head_missed n) (g.seen one end i e))

    last_reads : (one : List E) (end : Exit) → P one end → first_reads (head ++ one) ≡ true → loop_reads
    last_reads one end i e = elim (reads_in head one e) [ inl r ↦ head_reads r | inr r ↦ body_reads one end i r.0 r.1 ]

    loop_seen : (path : List E) (exit : Exit) → InLoop head P path exit → first_reads path ≡ true → loop_reads
    loop_seen path exit (no_more is to) e = head_reads (subst (λ p. first_reads p ≡ true) is e)
    loop_seen path exit (turn one other end i t j is) e =
        elim (reads_in head (one ++ other) (subst (λ p. first_reads p ≡ true) is e)) [
          | inl r ↦ head_reads r
          | inr r ↦ elim (reads_in one other r.1) [
            | inl q ↦ body_reads one end i r.0 q
            | inr q ↦ loop_seen other exit j q.1
          ]
        ]
    loop_seen path exit (loop_breaks one i is to) e = last_reads one Broken i (subst (λ p. first_reads p ≡ true) is e)
    loop_seen path exit (loop_stops one i is to) e = last_reads one Stopped i (subst (λ p. first_reads p ≡ true) is e)

    loop_left : (exit : Exit) → loop_exit at_head b exit ≡ true → Missing (InLoop head P) exit
    loop_left Onward e = record { path = head; is = no_more refl refl; misses = head_none e }
    loop_left Stopped e =
        let m : Missing P Stopped = g.left Stopped (and_right (at_head.missed Onward) (b.missed Stopped) e) in
        record { path = head ++ m.path; is = loop_stops m.path m.is refl refl; misses = none_row head m.path (head_none (and_left (at_head.missed Onward) (b.missed Stopped) e)) m.misses }
    loop_left Broken e = cc
    loop_left Continued e = cc

    ends_onward : (exit : Exit) → exit ≡ Onward → assigned head ≡ false → loop_exit at_head b exit ≡ true
    ends_onward exit is e = subst (λ x. loop_exit at_head b x ≡ true) (sym is) (head_missed e)

    loop_missed : (path : List E) (exit : Exit) → InLoop head P path exit → assigned path ≡ false → loop_exit at_head b exit ≡ true
    loop_missed path exit (no_more is to) e = ends_onward exit to (subst (λ p. assigned p ≡ false) is e)
    loop_missed path exit (turn one other end i t j is) e =
        loop_missed other exit j (none_later one other (none_later head (one ++ other) (subst (λ p. assigned p ≡ false) is e)))
    loop_missed path exit (loop_breaks one i is to) e = ends_onward exit to (none_here head one (subst (λ p. assigned p ≡ false) is e))
    loop_missed path exit (loop_stops one i is to) e =
        let n : assigned (head ++ one) ≡ false = subst (λ p. assigned p ≡ false) is e in
        subst (λ x. loop_exit at_head b x ≡ true) (sym to) (and_both (at_head.missed Onward) (b.missed Stopped) (head_missed (none_here head one n)) (g.missed one Stopped i (none_later head one n)))

    pub loop_exact : Exact (in_loop at_head b) (InLoop head P)
    loop_exact = record {
      some = record { path = head; exit = Onward; is = no_more refl refl };
      read = λ e. loop_found (or_cases at_head.reads (at_head.missed Onward && b.reads) e);
      seen = loop_seen;
      left = loop_left;
      missed = loop_missed;
    }
