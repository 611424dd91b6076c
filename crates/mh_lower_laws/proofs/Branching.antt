-- What is known of an `if`, branch by branch.
use Rattle.std.proofs.Common.{◌≡◌, ℕ, Bool, true, false, ◌&&◌, List, [], ◌∷◌, ◌++◌, Option, Some, None, refl, ap, ap₂, sym, ◌∙◌, subst}
use Rattle.std.specs.List.{list_all}
use Rattle.std.proofs.lemmas.Bool.{and_from}
use Rattle.std.proofs.lemmas.List.Folds.{list_all-append}
use Rattle.mh_design.specs.declared.assigned.Flow.{Flow}
use Rattle.mh_design.specs.declared.design.Design.{Design}
use Rattle.mh_design.specs.declared.design.Local.{Local as Variable}
use Rattle.mh_design.specs.Assigned.{both, joined, passes, followed, next, is_sound, after_reading, reads_local, walk, walk_block, walk_arms}
use Rattle.mh_design.specs.Constants.{constants_keep}
use Rattle.mh_design.specs.Numbering.{block_statements, arms_statements, arm_tests}
use Rattle.mh_design.specs.Statements.{is_numeric, kinds_fit, constants_fit, statement_fits, block_exits_fit, arms_exits_fit}
use Rattle.mh_design.specs.Tree.{Expression, Statement, If, Block, Arm, ArmOf, block, arms}
use Rattle.mh_exprs.specs.declared.typed.Work.{Work}
use Rattle.mh_lower.specs.Paths.{Paths, meet, goes_on}
use Rattle.mh_lower_laws.specs.Holds.{Extends}
use Rattle.mh_lower_laws.proofs.Basics.{all_then}
use Rattle.mh_lower_laws.proofs.Growth.{grown}
use Rattle.mh_lower_laws.proofs.PathLaws.{seen, flow_at, same_flow, both_assoc, both_swap, seen_meet, walk_after, walk_dead, arms_end}
use Rattle.mh_lower_laws.proofs.Reading.{KindsIn, KindsFit, Grows, SizedPaths, Sized, own, own_kinds, meet_sized, is_read}
use Rattle.mh_lower_laws.proofs.Running.{One, Goes, arms_statements_end, tests_end, arms_exits_end}
use Rattle.mh_lower_laws.proofs.StatementGrowth.{numeric_later, all_keep, statements_later}
use Rattle.mh_lower_laws.proofs.StatementsHave.{HasNumber}

-- ---- a block that begins here

-- what a block does from a place that paths lead to
pub record Follows (v : ℕ) (w : Work) (f : Flow) (y : Work) : Type 0 where
  pub sound : f.sound ≡ true
  pub falls : f.falls ≡ seen v y.here
  pub breaks : both (seen v w.breaks) f.breaks ≡ seen v y.breaks
  pub continues : both (seen v w.continues) f.continues ≡ seen v y.continues

pub follows : (v : ℕ) (w y : Work) (b : Block) (a : Bool) → seen v w.here ≡ Some a → walk_block v b (flow_at v w) ≡ flow_at v y → Follows v w (walk_block v b (passes true a)) y
follows v w y b a e q =
    let r : followed (flow_at v w) (walk_block v b (passes true a)) ≡ flow_at v y = sym (walk_after v b (flow_at v w) a e) ∙ q in
    record { sound = ap (λ (f : Flow). f.sound) r; falls = ap (λ (f : Flow). f.falls) r; breaks = ap (λ (f : Flow). f.breaks) r; continues = ap (λ (f : Flow). f.continues) r }

-- and from one that none leads to
pub stays_dead : (v : ℕ) (w y : Work) (b : Block) → seen v w.here ≡ None → walk_block v b (flow_at v w) ≡ flow_at v y → flow_at v w ≡ flow_at v y
stays_dead v w y b e q = sym (walk_dead v b (flow_at v w) e) ∙ q

-- ---- the branches so far

-- where paths lead to the `if`: what the branches do beside a flow
pub record Live (v : ℕ) (w : Work) (p : Paths) (y : Work) (f g : Flow) : Type 0 where
  pub sound : f.sound ≡ g.sound
  pub falls : f.falls ≡ both (seen v p) g.falls
  pub breaks : both (seen v w.breaks) f.breaks ≡ both (seen v y.breaks) g.breaks
  pub continues : both (seen v w.continues) f.continues ≡ both (seen v y.continues) g.continues

-- where none does
pub record Dead (v : ℕ) (w : Work) (p : Paths) (y : Work) : Type 0 where
  pub falls : seen v p ≡ None
  pub breaks : seen v y.breaks ≡ seen v w.breaks
  pub continues : seen v y.continues ≡ seen v w.continues

pub record Branched (n : ℕ) (instance loop : Bool) (w : Work) (done : List Arm × Paths) (y : Work) (d : Design) : Type 0 where
  pub sized : Sized n y
  pub paths : SizedPaths n done.1
  pub fit : KindsFit y d
  pub grows : Grows w y
  pub fits : (ls : List Variable) → KindsIn y ls → list_all (statement_fits d ls instance) (arms_statements (arms done.0)) ≡ true
  pub tests : (ls : List Variable) → KindsIn y ls → list_all (is_numeric d ls) (arm_tests (arms done.0)) ≡ true
  pub keeps : (ls : List Variable) → KindsIn y ls → list_all (constants_keep d ls) (arm_tests (arms done.0)) ≡ true
  pub exits : arms_exits_fit loop (arms done.0) ≡ true
  pub live : (v : ℕ) (a : Bool) → seen v w.here ≡ Some a → (g : Flow) → Live v w done.1 y (walk_arms v (arms done.0) a g) g
  pub dead : (v : ℕ) → seen v w.here ≡ None → Dead v w done.1 y

module _ (n : ℕ) (instance loop : Bool) where
  pub no_branch : (w : Work) (d : Design) → Sized n w → KindsFit w d → Branched n instance loop w ([], None) w d
  no_branch w d z f = record {
    sized = z;
    paths = tt;
    fit = f;
    grows = λ v k q. q;
    fits = λ ls k. refl;
    tests = λ ls k. refl;
    keeps = λ ls k. refl;
    exits = refl;
    live = λ v a q g. record { sound = refl; falls = refl; breaks = refl; continues = refl };
    dead = λ v q. record { falls = refl; breaks = refl; continues = refl };
  }

  -- the test of a branch, by all variables that have the kinds
  abbrev pub HasTest : Work → Design → Expression → Type 0
  HasTest w d e = (ls : List Variable) → KindsIn w ls → HasNumber w ls d e

  -- one more branch: its test at a place y, and its body from there on
  module _ (w : Work) (rs : List Arm) (p : Paths) (y : Work) (d : Design) (b : Branched n instance loop w (rs, p) y d) (e : Expression) (ss : List Statement) (z : Work) (f g : Design) (x : Extends d f) (x' : Extends f g) (x'' : Extends d g)
      (test : HasTest (goes_on w.here y) f e) (body : Goes n instance loop [] (goes_on w.here y) ss z g) where
    from : Work
    from = goes_on w.here y

    walked_on : (v : ℕ) → walk_block v (block ss) (flow_at v (goes_on w.here y)) ≡ flow_at v z
    walked_on v = body.walked v (flow_at v (goes_on w.here y)) refl

    joined_live : (v : ℕ) (a : Bool) → seen v w.here ≡ Some a → (h : Flow) → (t : Bool) → t ≡ true → Live v w (meet p z.here) z (joined (walk_arms v (arms rs) a h) (after_reading t (walk_block v (block ss) (passes true a)))) h
    joined_live v a q h t r =
        let m : Live v w p y (walk_arms v (arms rs) a h) h = b.live v a q h in
        let k : Follows v (goes_on w.here y) (walk_block v (block ss) (passes true a)) z = follows v (goes_on w.here y) z (block ss) a q (walked_on v) in
        record {
          sound = ap₂ (λ s u. s && u) m.sound (ap₂ (λ s u. s && u) r k.sound) ∙ and_yes h.sound;
          falls = ap₂ both m.falls k.falls ∙ both_swap (seen v p) h.falls (seen v z.here) ∙ ap (λ o. both o h.falls) (sym (seen_meet v p z.here));
          breaks = sym (both_assoc (seen v w.breaks) _ _) ∙ ap (λ o. both o (walk_block v (block ss) (passes true a)).breaks) m.breaks ∙ both_swap (seen v y.breaks) h.breaks _ ∙ ap (λ o. both o h.breaks) k.breaks;
          continues = sym (both_assoc (seen v w.continues) _ _) ∙ ap (λ o. both o (walk_block v (block ss) (passes true a)).continues) m.continues ∙ both_swap (seen v y.continues) h.continues _ ∙ ap (λ o. both o h.continues) k.continues;
        }
      where
        and_yes : (s : Bool) → (s && true) ≡ s
        and_yes true = refl
        and_yes false = refl

    one_dead : (v : ℕ) → seen v w.here ≡ None → Dead v w (meet p z.here) z
    one_dead v q =
        let k : flow_at v (goes_on w.here y) ≡ flow_at v z = stays_dead v (goes_on w.here y) z (block ss) q (walked_on v) in
        let m : Dead v w p y = b.dead v q in
        record {
          falls = seen_meet v p z.here ∙ ap₂ both m.falls (sym (ap (λ (r : Flow). r.falls) k) ∙ q);
          breaks = sym (ap (λ (r : Flow). r.breaks) k) ∙ m.breaks;
          continues = sym (ap (λ (r : Flow). r.continues) k) ∙ m.continues;
        }

    in_y : (ls : List Variable) → KindsIn z ls → KindsIn y ls
    in_y ls k v l q = k v l (body.grows v l q)

    pub one_branch : Branched n instance loop w (rs ++ ArmOf e (block ss) ∷ [], meet p z.here) z g
    one_branch = record {
      sized = body.built.sized;
      paths = meet_sized n p z.here b.paths body.built.sized.here;
      fit = body.built.fit;
      grows = λ v k q. body.grows v k (b.grows v k q);
      fits = λ ls k. ap (list_all (statement_fits g ls instance)) (arms_statements_end rs (ArmOf e (block ss))) ∙ list_all-append (statement_fits g ls instance) (arms_statements (arms rs)) (block_statements (block ss))
          ∙ and_from (list_all (statement_fits g ls instance) (arms_statements (arms rs))) (list_all (statement_fits g ls instance) (block_statements (block ss)))
          (statements_later d g (grown d g x'') ls instance (arms_statements (arms rs)) (b.fits ls (in_y ls k))) (body.built.fits ls k);
      tests = λ ls k. ap (list_all (is_numeric g ls)) (tests_end rs (ArmOf e (block ss))) ∙ list_all-append (is_numeric g ls) (arm_tests (arms rs)) (e ∷ [])
          ∙ and_from (list_all (is_numeric g ls) (arm_tests (arms rs))) (is_numeric g ls e && true)
          (all_then (is_numeric d ls) (is_numeric g ls) (arm_tests (arms rs)) (numeric_later d g (grown d g x'') ls) (b.tests ls (in_y ls k)))
          (and_from (is_numeric g ls e) true (numeric_later f g (grown f g x') ls e (test ls (in_y ls k)).numeric) refl);
      keeps = λ ls k. ap (list_all (constants_keep g ls)) (tests_end rs (ArmOf e (block ss))) ∙ list_all-append (constants_keep g ls) (arm_tests (arms rs)) (e ∷ [])
          ∙ and_from (list_all (constants_keep g ls) (arm_tests (arms rs))) (constants_keep g ls e && true)
          (all_keep d g (grown d g x'') ls (arm_tests (arms rs)) (b.tests ls (in_y ls k)) (b.keeps ls (in_y ls k)))
          (all_keep f g (grown f g x') ls (e ∷ []) (and_from (is_numeric f ls e) true (test ls (in_y ls k)).numeric refl) (and_from (constants_keep f ls e) true (test ls (in_y ls k)).keeps refl));
      exits = arms_exits_end loop rs (ArmOf e (block ss)) b.exits body.built.exits;
      live = λ v a q h. subst (λ r. Live v w (meet p z.here) z r h) (sym (arms_end v rs (ArmOf e (block ss)) a h)) (joined_live v a q h (is_sound a (reads_local v e)) (is_read v (goes_on w.here y) a (reads_local v e) q ((test (own y) (own_kinds y)).assigned v)));
      dead = one_dead;
    }

  -- ---- the whole

  module _ (l : ℕ) (w : Work) (rs : List Arm) (p : Paths) (y : Work) (d : Design) (b : Branched n instance loop w (rs, p) y d) (ss : List Statement) (z : Work) (g : Design) (x : Extends d g) (body : Goes n instance loop [] (goes_on w.here y) ss z g) where
    out_on : (v : ℕ) → walk_block v (block ss) (flow_at v (goes_on w.here y)) ≡ flow_at v z
    out_on v = body.walked v (flow_at v (goes_on w.here y)) refl

    if_walked : (v : ℕ) (o : Option Bool) → seen v w.here ≡ o → flow_at v (goes_on (meet p z.here) z) ≡ next (flow_at v w) o (λ a. walk v (If l (arms rs) (block ss)) a)
    if_walked v None q =
        let k : flow_at v (goes_on w.here y) ≡ flow_at v z = stays_dead v (goes_on w.here y) z (block ss) q (out_on v) in
        let m : Dead v w p y = b.dead v q in
        same_flow (flow_at v (goes_on (meet p z.here) z)) (flow_at v w) refl
        (seen_meet v p z.here ∙ ap₂ both m.falls (sym (ap (λ (r : Flow). r.falls) k) ∙ q) ∙ sym q)
        (sym (ap (λ (r : Flow). r.breaks) k) ∙ m.breaks) (sym (ap (λ (r : Flow). r.continues) k) ∙ m.continues)
    if_walked v (Some a) q =
        let h : Flow = walk_block v (block ss) (passes true a) in
        let k : Follows v (goes_on w.here y) (walk_block v (block ss) (passes true a)) z = follows v (goes_on w.here y) z (block ss) a q (out_on v) in
        let m : Live v w p y (walk_arms v (arms rs) a (walk_block v (block ss) (passes true a))) (walk_block v (block ss) (passes true a)) = b.live v a q (walk_block v (block ss) (passes true a)) in
        same_flow (flow_at v (goes_on (meet p z.here) z)) (followed (flow_at v w) (walk_arms v (arms rs) a (walk_block v (block ss) (passes true a))))
        (sym (m.sound ∙ k.sound))
        (seen_meet v p z.here ∙ ap (both (seen v p)) (sym k.falls) ∙ sym m.falls)
        (sym (m.breaks ∙ k.breaks)) (sym (m.continues ∙ k.continues))

    in_d : (ls : List Variable) → KindsIn z ls → KindsIn y ls
    in_d ls k v m q = k v m (body.grows v m q)

    pub one_if : One n instance loop w (If l (arms rs) (block ss)) (goes_on (meet p z.here) z) g
    one_if = record {
      grows = λ v k q. body.grows v k (b.grows v k q);
      sized = record { kinds = body.built.sized.kinds; here = meet_sized n p z.here b.paths body.built.sized.here; breaks = body.built.sized.breaks; continues = body.built.sized.continues };
      fit = body.built.fit;
      fits = λ ls k.
          let tests : list_all (is_numeric g ls) (arm_tests (arms rs)) ≡ true = all_then (is_numeric d ls) (is_numeric g ls) (arm_tests (arms rs)) (numeric_later d g (grown d g x) ls) (b.tests ls (in_d ls k)) in
          let keeps : list_all (constants_keep g ls) (arm_tests (arms rs)) ≡ true = all_keep d g (grown d g x) ls (arm_tests (arms rs)) (b.tests ls (in_d ls k)) (b.keeps ls (in_d ls k)) in
          and_from (statement_fits g ls instance (If l (arms rs) (block ss))) (list_all (statement_fits g ls instance) (arms_statements (arms rs) ++ block_statements (block ss)))
          (and_from (kinds_fit g ls (If l (arms rs) (block ss)) && constants_fit g ls (If l (arms rs) (block ss))) true (and_from (list_all (is_numeric g ls) (arm_tests (arms rs))) (list_all (constants_keep g ls) (arm_tests (arms rs))) tests keeps) refl)
          (list_all-append (statement_fits g ls instance) (arms_statements (arms rs)) (block_statements (block ss))
          ∙ and_from (list_all (statement_fits g ls instance) (arms_statements (arms rs))) (list_all (statement_fits g ls instance) (block_statements (block ss)))
          (statements_later d g (grown d g x) ls instance (arms_statements (arms rs)) (b.fits ls (in_d ls k))) (body.built.fits ls k));
      exits = and_from (arms_exits_fit loop (arms rs)) (block_exits_fit loop (block ss)) b.exits body.built.exits;
      walked = λ v. if_walked v (seen v w.here) refl;
    }
