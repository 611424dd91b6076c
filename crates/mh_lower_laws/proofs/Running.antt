-- What is known of statements in a row, with what they do to what is known of the locals.
use Rattle.std.proofs.Common.{◌≡◌, ℕ, Bool, true, List, [], ◌∷◌, ◌++◌, Result, Ok, Err, refl, ap, sym, ◌∙◌, append_assoc, append-nil}
use Rattle.std.specs.List.{list_all}
use Rattle.std.proofs.lemmas.Bool.{and_parts, and_from}
use Rattle.std.proofs.lemmas.List.Folds.{list_all-append}
use Rattle.mh_text.specs.declared.code.Code.{Code}
use Rattle.mh_consts.specs.declared.scope.Scope.{Scope}
use Rattle.mh_design.specs.declared.assigned.Flow.{Flow}
use Rattle.mh_design.specs.declared.design.Design.{Design}
use Rattle.mh_design.specs.declared.design.Local.{Local as Variable}
use Rattle.mh_design.specs.Assigned.{next, walk, walk_block}
use Rattle.mh_design.specs.Numbering.{statements, block_statements, arm_statements, arms_statements, arm_test, arm_tests}
use Rattle.mh_design.specs.Statements.{statement_fits, exits_fit, block_exits_fit, arm_exits_fit, arms_exits_fit}
use Rattle.mh_design.specs.Tree.{Statement, Arm, block, arms}
use Rattle.mh_exprs.specs.declared.typed.Work.{Work}
use Rattle.mh_lower.specs.Run.{Broken, Run, then, placed, placed_with}
use Rattle.mh_lower_laws.specs.Holds.{Holds, Extends}
use Rattle.mh_lower_laws.proofs.Growth.{grown, extends_self, extends_on}
use Rattle.mh_lower_laws.proofs.PathLaws.{seen, flow_at, walk_end}
use Rattle.mh_lower_laws.proofs.Reading.{KindsIn, KindsFit, Grows, Sized, own, own_kinds}
use Rattle.mh_lower_laws.proofs.StatementGrowth.{statements_later}
use Rattle.mh_lower_laws.proofs.StatementsHave.{MadeAs}
use Rattle.mh_lower_laws.proofs.Stepping.{Later, Leads}

-- ---- runs

abbrev pub Running : {A : Type 0} → Scope → (A → Work → Design → Type 0) → Design → Result (A × Work × Design) Broken → Type 0
Running s Q d (Ok x) = Later s d x.2 (Q x.0 x.1 x.2)
Running s Q d (Err broken) = Unit {0}

-- the run from d gives this, if it isn't refused
pub record Runs {A : Type 0} (s : Scope) (Q : A → Work → Design → Type 0) (d : Design) (r : Result (A × Work × Design) Broken) : Type 0 where
  pub ran : Running s Q d r

pub runs_gives : {A : Type 0} (s : Scope) (Q : A → Work → Design → Type 0) (d : Design) (x : A) (w : Work) → Holds s d → Q x w d → Runs s Q d (Ok (x, w, d))
runs_gives s Q d x w h q = record { ran = record { extends = extends_self d; holds = h; gives = q } }

pub runs_refused : {A : Type 0} (s : Scope) (Q : A → Work → Design → Type 0) (d : Design) (b : Broken) → Runs s Q d (Err b)
runs_refused s Q d b = record { ran = tt }

pub runs_from : {A : Type 0} (s : Scope) (Q : A → Work → Design → Type 0) (d e : Design) (r : Result (A × Work × Design) Broken) → Extends d e → Runs s Q e r → Runs s Q d r
runs_from s Q d e (Ok x) g l = record { ran = record { extends = extends_on d e x.2 g l.ran.extends; holds = l.ran.holds; gives = l.ran.gives } }
runs_from s Q d e (Err b) g l = record { ran = tt }

pub runs_then : {A B : Type 0} (s : Scope) (Q : A → Work → Design → Type 0) (R : B → Work → Design → Type 0) (d : Design) (r : Result (A × Work × Design) Broken) (f : A → Run B) →
    Runs s Q d r → ((x : A) (w : Work) (e : Design) → Extends d e → Holds s e → Q x w e → Runs s R e (f x w e)) → Runs s R d (then r f)
runs_then s Q R d (Ok x) f l k = runs_from s R d x.2 (f x.0 x.1 x.2) l.ran.extends (k x.0 x.1 x.2 l.ran.extends l.ran.holds l.ran.gives)
runs_then s Q R d (Err b) f l k = record { ran = tt }

pub runs_weaker : {A : Type 0} (s : Scope) (Q R : A → Work → Design → Type 0) (d : Design) (r : Result (A × Work × Design) Broken) → ((x : A) (w : Work) (e : Design) → Q x w e → R x w e) → Runs s Q d r → Runs s R d r
runs_weaker s Q R d (Ok x) f l = record { ran = record { extends = l.ran.extends; holds = l.ran.holds; gives = f x.0 x.1 x.2 l.ran.gives } }
runs_weaker s Q R d (Err b) f l = record { ran = tt }

pub runs_placed : {A : Type 0} (s : Scope) (Q : A → Design → Type 0) (l : ℕ) (w : Work) (d : Design) (r : Result (A × Design) Code) → Leads s Q d r → Runs s (λ x y f. (y ≡ w) × Q x f) d (placed l w r)
runs_placed s Q l w d (Ok x) h = record { ran = record { extends = h.led.extends; holds = h.led.holds; gives = (refl, h.led.gives) } }
runs_placed s Q l w d (Err code) h = record { ran = tt }

pub runs_placed_with : {A : Type 0} (s : Scope) (Q : A × Work → Design → Type 0) (l : ℕ) (d : Design) (r : Result ((A × Work) × Design) Code) → Leads s Q d r → Runs s (λ x w f. Q (x, w) f) d (placed_with l r)
runs_placed_with s Q l d (Ok x) h = record { ran = record { extends = h.led.extends; holds = h.led.holds; gives = h.led.gives } }
runs_placed_with s Q l d (Err code) h = record { ran = tt }

-- ---- statements in a row

statements_end : (out : List Statement) (st : Statement) → block_statements (block (out ++ st ∷ [])) ≡ block_statements (block out) ++ statements st
statements_end [] st = append-nil (statements st)
statements_end (x ∷ out) st = ap (λ ss. statements x ++ ss) (statements_end out st) ∙ sym (append_assoc (statements x) (block_statements (block out)) (statements st))

pub arms_statements_end : (rs : List Arm) (r : Arm) → arms_statements (arms (rs ++ r ∷ [])) ≡ arms_statements (arms rs) ++ arm_statements r
arms_statements_end [] r = append-nil (arm_statements r)
arms_statements_end (x ∷ rs) r = ap (λ ss. arm_statements x ++ ss) (arms_statements_end rs r) ∙ sym (append_assoc (arm_statements x) (arms_statements (arms rs)) (arm_statements r))

pub tests_end : (rs : List Arm) (r : Arm) → arm_tests (arms (rs ++ r ∷ [])) ≡ arm_tests (arms rs) ++ arm_test r ∷ []
tests_end [] r = refl
tests_end (x ∷ rs) r = ap (λ es. arm_test x ∷ es) (tests_end rs r)

exits_end : (loop : Bool) (out : List Statement) (st : Statement) → block_exits_fit loop (block out) ≡ true → exits_fit loop st ≡ true → block_exits_fit loop (block (out ++ st ∷ [])) ≡ true
exits_end loop [] st h k = and_from (exits_fit loop st) true k refl
exits_end loop (x ∷ out) st h k = let p = and_parts (exits_fit loop x) (block_exits_fit loop (block out)) h in and_from (exits_fit loop x) _ p.0 (exits_end loop out st p.1 k)

pub arms_exits_end : (loop : Bool) (rs : List Arm) (r : Arm) → arms_exits_fit loop (arms rs) ≡ true → arm_exits_fit loop r ≡ true → arms_exits_fit loop (arms (rs ++ r ∷ [])) ≡ true
arms_exits_end loop [] r h k = and_from (arm_exits_fit loop r) true k refl
arms_exits_end loop (x ∷ rs) r h k = let p = and_parts (arm_exits_fit loop x) (arms_exits_fit loop (arms rs)) h in and_from (arm_exits_fit loop x) _ p.0 (arms_exits_end loop rs r p.1 k)

-- what is known after one statement
pub record One (n : ℕ) (instance loop : Bool) (w : Work) (st : Statement) (y : Work) (d : Design) : Type 0 where
  pub grows : Grows w y
  pub sized : Sized n y
  pub fit : KindsFit y d
  pub fits : (ls : List Variable) → KindsIn y ls → list_all (statement_fits d ls instance) (statements st) ≡ true
  pub exits : exits_fit loop st ≡ true
  pub walked : (v : ℕ) → flow_at v y ≡ next (flow_at v w) (seen v w.here) (λ a. walk v st a)

-- what is known at a place, of the statements so far
pub record Built (n : ℕ) (instance loop : Bool) (out : List Statement) (w : Work) (d : Design) : Type 0 where
  pub sized : Sized n w
  pub fit : KindsFit w d
  pub fits : (ls : List Variable) → KindsIn w ls → list_all (statement_fits d ls instance) (block_statements (block out)) ≡ true
  pub exits : block_exits_fit loop (block out) ≡ true

-- and after more of them
pub record Goes (n : ℕ) (instance loop : Bool) (out : List Statement) (w : Work) (ss : List Statement) (y : Work) (d : Design) : Type 0 where
  pub built : Built n instance loop ss y d
  pub grows : Grows w y
  pub walked : (v : ℕ) (p : Flow) → walk_block v (block out) p ≡ flow_at v w → walk_block v (block ss) p ≡ flow_at v y

module _ (n : ℕ) (instance loop : Bool) where
  pub grows_in : (w y : Work) (ls : List Variable) → Grows w y → KindsIn y ls → KindsIn w ls
  grows_in w y ls g k v l q = k v l (g v l q)

  pub goes_self : (out : List Statement) (w : Work) (d : Design) → Built n instance loop out w d → Goes n instance loop out w out w d
  goes_self out w d b = record { built = b; grows = λ v k q. q; walked = λ v p q. q }

  pub goes_on : (out ss tts : List Statement) (w y z : Work) (d e : Design) → Goes n instance loop out w ss y d → Goes n instance loop ss y tts z e → Goes n instance loop out w tts z e
  goes_on out ss tts w y z d e g h = record { built = h.built; grows = λ v k q. h.grows v k (g.grows v k q); walked = λ v p q. h.walked v p (g.walked v p q) }

  -- one more statement
  pub one_more : (out : List Statement) (st : Statement) (w y : Work) (d e : Design) → Built n instance loop out w d → Extends d e → One n instance loop w st y e → Goes n instance loop out w (out ++ st ∷ []) y e
  one_more out st w y d e b x o = record {
    built = record {
      sized = o.sized;
      fit = o.fit;
      fits = λ ls k. ap (list_all (statement_fits e ls instance)) (statements_end out st) ∙ list_all-append (statement_fits e ls instance) (block_statements (block out)) (statements st)
          ∙ and_from (list_all (statement_fits e ls instance) (block_statements (block out))) (list_all (statement_fits e ls instance) (statements st))
          (statements_later d e (grown d e x) ls instance (block_statements (block out)) (b.fits ls (grows_in w y ls o.grows k))) (o.fits ls k);
      exits = exits_end loop out st b.exits o.exits;
    };
    grows = o.grows;
    walked = λ v p q. walk_end v out st p ∙ ap (λ (r : Flow). next r r.falls (λ a. walk v st a)) q ∙ sym (o.walked v);
  }

  -- a statement that holds no others
  pub made_one : (st : Statement) (w y : Work) (e : Design) → ((ls : List Variable) → KindsIn w ls → MadeAs n instance ls w (st, y) e) → One n instance loop w st y e
  made_one st w y e h =
      let m = h (own w) (own_kinds w) in
      record { grows = m.grows; sized = m.sized; fit = m.fit; fits = λ ls k. (h ls (grows_in w y ls m.grows k)).fits k; exits = m.exits loop; walked = m.walked }
