-- What is known of a whole body.
use Rattle.std.proofs.Common.{◌≡◌, ℕ, ◌<◌, Bool, true, false, ◌&&◌, List, [], Option, Some, None, Result, Ok, Err, refl, sym, subst}
use Rattle.std.proofs.lemmas.Bool.{and_parts}
use Rattle.mh_text.specs.declared.code.Code.TheVariants.{E2NotElaborable}
use Rattle.mh_consts.specs.declared.scope.Scope.{Scope}
use Rattle.mh_consts.specs.Expression.{Ex}
use Rattle.mh_consts.specs.Names.{lookup}
use Rattle.mh_design.specs.declared.design.Design.{Design}
use Rattle.mh_design.specs.declared.design.Local.{Local as Variable}
use Rattle.mh_design.specs.Tree as tree
use Rattle.mh_design.specs.Tree.{Statement, Arm, ArmOf, arms, block, expression_of}
use Rattle.mh_exprs.specs.declared.locals.Locals.{Locals}
use Rattle.mh_exprs.specs.declared.typed.Typed.{Typed}
use Rattle.mh_exprs.specs.declared.typed.Work.{Work}
use Rattle.mh_lower.specs.Body as line
use Rattle.mh_lower.specs.Body.{Line, Lines, Choice, Choices, End, Then, Where, NoChoice, OrElse}
use Rattle.mh_lower.specs.Bodies.{with_any, some, one, begins, has_turns, while_line, for_line, branch_line, Branches, with_branch, if_line, leave, read_line, read_lines, read_choices, read_choice}
use Rattle.mh_lower.specs.Paths.{Paths, meet, breaks, continues, stops, goes_on, enters, leaves, turn, turned}
use Rattle.mh_lower.specs.Run as run
use Rattle.mh_lower.specs.Run.{Broken, Run, gives, refused, look, change, at, does}
use Rattle.mh_lower.specs.Statements.{Made, assign, augment, by_itself, yields, is_stop_call, claim, condition}
use Rattle.mh_exprs.specs.Step.{Step, just}
use Rattle.mh_lower_laws.specs.Holds.{Holds, Extends}
use Rattle.mh_lower_laws.specs.Laws.{Known}
use Rattle.mh_lower_laws.proofs.Growth.{grown, extends_on}
use Rattle.mh_lower_laws.proofs.Having.{kind_fits_later}
use Rattle.mh_lower_laws.proofs.Keys.{keys_fit}
use Rattle.mh_lower_laws.proofs.Reading.{KindsIn, KindsFit, SizedPaths, Sized, own, own_kinds, leads_all, assigned_sized}
use Rattle.mh_lower_laws.proofs.Running.{Runs, runs_gives, runs_refused, runs_then, runs_weaker, runs_placed, runs_placed_with, One, Built, Goes, goes_self, goes_on as goes_further, one_more, made_one}
use Rattle.mh_lower_laws.proofs.Branching.{Branched, no_branch, one_branch, one_if}
use Rattle.mh_lower_laws.proofs.Looping.{one_break, one_continue, one_while, BegunAt, begins_lead, one_for}
use Rattle.mh_design.specs.Numbering.{block_statements}
use Rattle.mh_lower_laws.proofs.StatementGrowth.{statements_later}
use Rattle.mh_lower_laws.proofs.StatementsHave.{MadeAs, HasNumber, assign_leads, augment_leads, test_leads, claim_leads, AnyMade, by_itself_leads, yields_fit, stop_made}
use Rattle.mh_lower_laws.proofs.Stepping.{Leads, leads_just, leads_then}

-- ---- calls in lines, as they stand in a source

abbrev mutual
  pub line_fits : Line → Bool
  line_fits (line.Value l e) = keys_fit e
  line_fits (line.Assign l t e) = keys_fit t && keys_fit e
  line_fits (line.Augment l o t e) = keys_fit t && keys_fit e
  line_fits line.Pass = true
  line_fits (line.Break l) = true
  line_fits (line.Continue l) = true
  line_fits (line.Yield l e) = keys_fit e
  line_fits (line.Raise l e) = keys_fit e
  line_fits (line.Assert l e) = keys_fit e
  line_fits (line.If l cs other) = choices_fit cs && lines_fit other
  line_fits (line.For l t over b) = keys_fit over && lines_fit b
  line_fits (line.While l e b) = keys_fit e && lines_fit b
  line_fits (line.Forbidden l) = true

  pub lines_fit : Lines → Bool
  lines_fit End = true
  lines_fit (Then x xs) = line_fits x && lines_fit xs

  pub choice_fits : Choice → Bool
  choice_fits (Where e b) = keys_fit e && lines_fit b

  pub choices_fit : Choices → Bool
  choices_fit NoChoice = true
  choices_fit (OrElse c cs) = choice_fits c && choices_fit cs

-- a statement or none
abbrev pub AtMostOne : ℕ → Bool → Bool → Work → Option Statement → Work → Design → Type 0
AtMostOne n instance loop w None y d = (y ≡ w) × KindsFit w d
AtMostOne n instance loop w (Some st) y d = One n instance loop w st y d

module _ (s : Scope) (locals : Locals) (n : ℕ) (numbered : (t : List ℕ) (v : ℕ) → lookup locals.numbers t ≡ Some v → v < n) (instance : Bool) where
  -- from here the run makes at most one statement, or one
  abbrev Makes : Bool → Work → Design → Run (Option Statement) → Type 0
  Makes loop w d p = Runs s (λ o y f. AtMostOne n instance loop w o y f) d (p w d)

  abbrev MakesOne : Bool → Work → Design → Run Statement → Type 0
  MakesOne loop w d p = Runs s (λ st y f. One n instance loop w st y f) d (p w d)

  as_one : (loop : Bool) (w : Work) (d : Design) (p : Run Statement) → MakesOne loop w d p → Makes loop w d (one p)
  as_one loop w d p h = by_result (p w d) h
    where
      by_result : (r : Result (Statement × Work × Design) Broken) → Runs s (λ st y f. One n instance loop w st y f) d r → Runs s (λ o y f. AtMostOne n instance loop w o y f) d (some r)
      by_result (Ok x) h = record { ran = record { extends = h.ran.extends; holds = h.ran.holds; gives = h.ran.gives } }
      by_result (Err b) h = record { ran = tt }

  -- ---- statements that hold no others

  made : (loop : Bool) (l : ℕ) (w : Work) (d : Design) (p : Work → Step Made) → KindsFit w d → ((ls : List Variable) → Known w ls d → Leads s (λ m f. MadeAs n instance ls w m f) d (p w d)) → MakesOne loop w d (does l p)
  made loop l w d p fit h =
      runs_placed_with s (λ m f. One n instance loop w m.0 m.1 f) l d (p w d)
      (leads_then s (λ m f. One n instance loop w m.0 m.1 f) (λ m f. (ls : List Variable) → KindsIn w ls → MadeAs n instance ls w m f) d (p w d) (λ m f k. made_one n instance loop m.0 w m.1 f k)
      (leads_all s w (λ ls m f. MadeAs n instance ls w m f) d (p w d) (λ ls k. h ls (record { kinds = k; fit = fit }))))

  -- what leaves what is known of the locals
  stays_here : (loop : Bool) (l : ℕ) (w : Work) (d : Design) (p : Work → Step Statement) → KindsFit w d → ((ls : List Variable) → Known w ls d → Leads s (λ st f. MadeAs n instance ls w (st, w) f) d (p w d)) → MakesOne loop w d (at l p)
  stays_here loop l w d p fit h =
      runs_weaker s (λ st y f. (y ≡ w) × One n instance loop w st w f) (λ st y f. One n instance loop w st y f) d (at l p w d) (λ st y f i. subst (λ y. One n instance loop w st y f) (sym i.0) i.1)
      (runs_placed s (λ st f. One n instance loop w st w f) l w d (p w d)
      (leads_then s (λ st f. One n instance loop w st w f) (λ st f. (ls : List Variable) → KindsIn w ls → MadeAs n instance ls w (st, w) f) d (p w d) (λ st f k. made_one n instance loop st w w f k)
      (leads_all s w (λ ls st f. MadeAs n instance ls w (st, w) f) d (p w d) (λ ls k. h ls (record { kinds = k; fit = fit })))))

  any_one : (loop : Bool) (w : Work) (o : Option Statement) (f : Design) → ((ls : List Variable) → KindsIn w ls → AnyMade n instance ls w o f) → AtMostOne n instance loop w o w f
  any_one loop w None f h = (refl, h (own w) (own_kinds w))
  any_one loop w (Some st) f h = made_one n instance loop st w w f h

  any_made : (loop : Bool) (l : ℕ) (w : Work) (d : Design) (p : Work → Step (Option Statement)) → KindsFit w d → ((ls : List Variable) → Known w ls d → Leads s (AnyMade n instance ls w) d (p w d)) → Makes loop w d (at l p)
  any_made loop l w d p fit h =
      runs_weaker s (λ o y f. (y ≡ w) × AtMostOne n instance loop w o w f) (λ o y f. AtMostOne n instance loop w o y f) d (at l p w d) (λ o y f i. subst (λ y. AtMostOne n instance loop w o y f) (sym i.0) i.1)
      (runs_placed s (λ o f. AtMostOne n instance loop w o w f) l w d (p w d)
      (leads_then s (λ o f. AtMostOne n instance loop w o w f) (λ o f. (ls : List Variable) → KindsIn w ls → AnyMade n instance ls w o f) d (p w d) (λ o f k. any_one loop w o f k)
      (leads_all s w (λ ls o f. AnyMade n instance ls w o f) d (p w d) (λ ls k. h ls (record { kinds = k; fit = fit })))))

  -- what leaves the place
  left_by : (loop allowed : Bool) (l : ℕ) (w : Work) (d : Design) (st : Statement) (f : Work → Work) → Holds s d → (allowed ≡ true → One n instance loop w st (f w) d) → Makes loop w d (leave allowed l st f)
  left_by loop false l w d st f h k = runs_refused s (λ o y f. AtMostOne n instance loop w o y f) d (E2NotElaborable, l)
  left_by loop true l w d st f h k = runs_gives s (λ o y f. AtMostOne n instance loop w o y f) d (Some st) (f w) h (k refl)

  stop_one : (loop : Bool) (l : ℕ) (w : Work) (d : Design) → Holds s d → Sized n w → KindsFit w d → One n instance loop w (tree.Stop l) (stops w) d
  stop_one loop l w d h z f = made_one n instance loop (tree.Stop l) w (stops w) d (λ ls k. stop_made s locals n numbered instance ls w z d h (record { kinds = k; fit = f }) l)

  break_one : (loop : Bool) (l : ℕ) (w : Work) (d : Design) → Sized n w → KindsFit w d → loop ≡ true → One n instance loop w (tree.Break l) (breaks w) d
  break_one loop l w d z f q = subst (λ b. One n instance b w (tree.Break l) (breaks w) d) (sym q) (one_break n instance l w d z f)

  continue_one : (loop : Bool) (l : ℕ) (w : Work) (d : Design) → Sized n w → KindsFit w d → loop ≡ true → One n instance loop w (tree.Continue l) (continues w) d
  continue_one loop l w d z f q = subst (λ b. One n instance b w (tree.Continue l) (continues w) d) (sym q) (one_continue n instance l w d z f)

  -- ---- one after the other

  built_later : (loop : Bool) (out : List Statement) (w : Work) (d f : Design) → Extends d f → KindsFit w f → Built n instance loop out w d → Built n instance loop out w f
  built_later loop out w d f x fit b = record { sized = b.sized; fit = fit; fits = λ ls k. statements_later d f (grown d f x) ls instance (block_statements (block out)) (b.fits ls k); exits = b.exits }

  one_on : (loop : Bool) (out : List Statement) (w y : Work) (d f : Design) (o : Option Statement) → Built n instance loop out w d → Extends d f → AtMostOne n instance loop w o y f → Goes n instance loop out w (with_any out o) y f
  one_on loop out w y d f None b x i = subst (λ y. Goes n instance loop out w out y f) (sym i.0) (goes_self n instance loop out w f (built_later loop out w d f x i.1 b))
  one_on loop out w y d f (Some st) b x i = one_more n instance loop out st w y d f b x i

  -- ---- a place where a part of the body begins

  starts_at : (loop : Bool) (w : Work) (d : Design) → Sized n w → KindsFit w d → Built n instance loop [] w d
  starts_at loop w d z f = record { sized = z; fit = f; fits = λ ls k. refl; exits = refl }

  goes_sized : (w : Work) (p : Paths) → Sized n w → SizedPaths n p → Sized n (goes_on p w)
  goes_sized w p z q = record { kinds = z.kinds; here = q; breaks = z.breaks; continues = z.continues }

  enters_sized : (w : Work) (p : Paths) → Sized n w → SizedPaths n p → Sized n (enters p w)
  enters_sized w p z q = record { kinds = z.kinds; here = q; breaks = tt; continues = tt }

  turn_sized : (has : Option Bool) (u : ℕ) (p : Paths) → SizedPaths n p → SizedPaths n (turn has u p)
  turn_sized None u p z = assigned_sized n p u z
  turn_sized (Some true) u p z = assigned_sized n p u z
  turn_sized (Some false) u p z = tt

  fit_later : (w : Work) (d f : Design) → Extends d f → KindsFit w d → KindsFit w f
  fit_later w d f x k v m q = kind_fits_later w (own w) d f x m (k v m q)

  -- a condition, by all variables that have the kinds
  AllTests : Work → Typed → Design → Type 0
  AllTests w t f = (ls : List Variable) → KindsIn w ls → HasNumber w ls f (expression_of t.expr)

  tests_lead : (w : Work) (d : Design) (e : Ex) → Holds s d → Sized n w → KindsFit w d → keys_fit e ≡ true → Leads s (AllTests w) d (condition s locals w e d)
  unfolding AllTests
  tests_lead w d e h z f k = leads_all s w (λ ls t f. HasNumber w ls f (expression_of t.expr)) d (condition s locals w e d) (λ ls i. test_leads s locals n numbered instance ls w z d h (record { kinds = i; fit = f }) e k)

  -- ---- statements that hold others, by what reads these

  -- from this place the run reads a block
  abbrev Reads : Bool → Work → Run (List Statement) → Type 0
  Reads loop w p = (d : Design) → Holds s d → KindsFit w d → Runs s (λ ss z g. Goes n instance loop [] w ss z g) d (p w d)

  while_goes : (loop : Bool) (l : ℕ) (e : Ex) (w : Work) (d : Design) (p : Run (List Statement)) → keys_fit e ≡ true → Holds s d → Sized n w → KindsFit w d → Reads true (enters w.here w) p → MakesOne loop w d (while_line s locals l e p)
  unfolding while_line AllTests
  while_goes loop l e w d p k h z fit body =
      runs_then s (λ t y f. (y ≡ w) × AllTests w t f) (λ st y f. One n instance loop w st y f) d (at l (λ w. condition s locals w e) w d)
      (λ t y f. run.then (p (enters y.here y) f) (λ ss z g. gives (tree.While l (expression_of t.expr) (block ss)) (leaves y y.here z) g))
      (runs_placed s (AllTests w) l w d (condition s locals w e d) (tests_lead w d e h z fit k))
      (λ t y f x later i. subst (λ y. Runs s (λ st y f. One n instance loop w st y f) f (run.then (p (enters y.here y) f) (λ ss z g. gives (tree.While l (expression_of t.expr) (block ss)) (leaves y y.here z) g))) (sym i.0)
      (runs_then s (λ ss z g. Goes n instance true [] (enters w.here w) ss z g) (λ st y f. One n instance loop w st y f) f (p (enters w.here w) f) (λ ss z g. gives (tree.While l (expression_of t.expr) (block ss)) (leaves w w.here z) g)
      (body f later (fit_later w d f x fit))
      (λ ss r g x' later' j. runs_gives s (λ st y f. One n instance loop w st y f) g (tree.While l (expression_of t.expr) (block ss)) (leaves w w.here r) later' (one_while n instance loop l w (expression_of t.expr) ss r f g x' z i.1 j))))

  for_goes : (loop : Bool) (l : ℕ) (o : Option ℕ) (over : Ex) (w : Work) (d : Design) (p : Run (List Statement)) → ((u : ℕ) → o ≡ Some u → u < n) → keys_fit over ≡ true → Holds s d → Sized n w → KindsFit w d →
      ((y : Work) (q : Paths) → Sized n y → SizedPaths n q → Reads true (enters q y) p) → MakesOne loop w d (for_line s locals l o over p)
  unfolding for_line
  for_goes loop l o over w d p below k h z fit body =
      runs_then s (λ x y f. BegunAt n w (x, y) f) (λ st y f. One n instance loop w st y f) d (does l (begins s locals o over) w d)
      (λ x y f. run.then (p (enters (turn (has_turns x.1) x.0 y.here) y) f) (λ ss z g. gives (tree.For l x.0 x.1.down (expression_of x.1.from) (expression_of x.1.to) x.1.step (block ss)) (leaves y (turned (has_turns x.1) y.here z) z) g))
      (runs_placed_with s (BegunAt n w) l d (begins s locals o over w d) (begins_lead s locals n numbered instance w z d h fit o over below k))
      (λ x y f later_on later i. runs_then s (λ ss z g. Goes n instance true [] (enters (turn (has_turns x.1) x.0 y.here) y) ss z g) (λ st y f. One n instance loop w st y f) f (p (enters (turn (has_turns x.1) x.0 y.here) y) f)
      (λ ss z g. gives (tree.For l x.0 x.1.down (expression_of x.1.from) (expression_of x.1.to) x.1.step (block ss)) (leaves y (turned (has_turns x.1) y.here z) z) g)
      (body y (turn (has_turns x.1) x.0 y.here) i.begun.sized (turn_sized (has_turns x.1) x.0 y.here i.begun.sized.here) f later i.begun.fit)
      (λ ss r g x' later' j. runs_gives s (λ st y f. One n instance loop w st y f) g (tree.For l x.0 x.1.down (expression_of x.1.from) (expression_of x.1.to) x.1.step (block ss)) (leaves y (turned (has_turns x.1) y.here r) r) later'
      (one_for n instance loop l x.0 x.1 w y f i.begun i.below ss r g x' j)))

  -- a branch, at a place y
  branch_goes : (loop : Bool) (l : ℕ) (e : Ex) (w : Work) (done : Branches) (y : Work) (d : Design) (p : Run (List Statement)) → keys_fit e ≡ true → Holds s d → SizedPaths n w.here → Branched n instance loop w done y d → Reads loop (goes_on w.here y) p →
      Runs s (λ r z g. Branched n instance loop w (with_branch done r z) z g) d (branch_line s locals l e p (goes_on w.here y) d)
  unfolding branch_line AllTests
  branch_goes loop l e w done y d p k h z b body =
      runs_then s (λ t v f. (v ≡ goes_on w.here y) × AllTests (goes_on w.here y) t f) (λ r z g. Branched n instance loop w (with_branch done r z) z g) d (at l (λ w. condition s locals w e) (goes_on w.here y) d)
      (λ t v f. run.then (p v f) (λ ss z g. gives (ArmOf (expression_of t.expr) (block ss)) z g))
      (runs_placed s (AllTests (goes_on w.here y)) l (goes_on w.here y) d (condition s locals (goes_on w.here y) e d) (tests_lead (goes_on w.here y) d e h (goes_sized y w.here b.sized z) b.fit k))
      (λ t v f x later i. subst (λ v. Runs s (λ r z g. Branched n instance loop w (with_branch done r z) z g) f (run.then (p v f) (λ ss z g. gives (ArmOf (expression_of t.expr) (block ss)) z g))) (sym i.0)
      (runs_then s (λ ss z g. Goes n instance loop [] (goes_on w.here y) ss z g) (λ r z g. Branched n instance loop w (with_branch done r z) z g) f (p (goes_on w.here y) f) (λ ss z g. gives (ArmOf (expression_of t.expr) (block ss)) z g)
      (body f later (fit_later y d f x b.fit))
      (λ ss v' g x' later' j. runs_gives s (λ r z g. Branched n instance loop w (with_branch done r z) z g) g (ArmOf (expression_of t.expr) (block ss)) v' later'
      (one_branch n instance loop w done.0 done.1 y d b (expression_of t.expr) ss v' f g x x' (extends_on d f g x x') i.1 j))))

  if_goes : (loop : Bool) (l : ℕ) (w : Work) (d : Design) (p : Paths → Run Branches) (q : Run (List Statement)) → Holds s d → Sized n w →
      Runs s (λ done y f. Branched n instance loop w done y f) d (p w.here w d) → ((y : Work) → Sized n y → Reads loop (goes_on w.here y) q) → MakesOne loop w d (if_line l p q)
  unfolding if_line
  if_goes loop l w d p q h z branches other =
      runs_then s (λ done y f. Branched n instance loop w done y f) (λ st y f. One n instance loop w st y f) d (p w.here w d)
      (λ done y f. run.then (q (goes_on w.here y) f) (λ ss z g. gives (tree.If l (arms done.0) (block ss)) (goes_on (meet done.1 z.here) z) g)) branches
      (λ done y f x later c. runs_then s (λ ss z g. Goes n instance loop [] (goes_on w.here y) ss z g) (λ st y f. One n instance loop w st y f) f (q (goes_on w.here y) f)
      (λ ss z g. gives (tree.If l (arms done.0) (block ss)) (goes_on (meet done.1 z.here) z) g) (other y c.sized f later c.fit)
      (λ ss r g x' later' i. runs_gives s (λ st y f. One n instance loop w st y f) g (tree.If l (arms done.0) (block ss)) (goes_on (meet done.1 r.here) r) later' (one_if n instance loop l w done.0 done.1 y f c ss r g x' i)))

  -- ---- all statements

  mutual
    unfolding read_line read_lines read_choices read_choice

    pub line_goes : (x : Line) (loop : Bool) (w : Work) (d : Design) → line_fits x ≡ true → Holds s d → Sized n w → KindsFit w d → Makes loop w d (read_line s locals instance loop x)
    line_goes (line.Value l e) loop w d k h z f = any_made loop l w d (λ w. by_itself s locals w l e) f (λ ls i. by_itself_leads s locals n numbered instance ls w z d h i l e k)
    line_goes (line.Assign l t e) loop w d k h z f =
        let p = and_parts (keys_fit t) (keys_fit e) k in
        as_one loop w d (does l (λ w. assign s locals w l t e)) (made loop l w d (λ w. assign s locals w l t e) f (λ ls i. assign_leads s locals n numbered instance ls w z d h i l t e p.0 p.1))
    line_goes (line.Augment l o t e) loop w d k h z f =
        let p = and_parts (keys_fit t) (keys_fit e) k in
        as_one loop w d (does l (λ w. augment s locals w l o t e)) (made loop l w d (λ w. augment s locals w l o t e) f (λ ls i. augment_leads s locals n numbered instance ls w z d h i l o t e p.0 p.1))
    line_goes line.Pass loop w d k h z f = runs_gives s (λ o y f. AtMostOne n instance loop w o y f) d None w h (refl, f)
    line_goes (line.Break l) loop w d k h z f = left_by loop loop l w d (tree.Break l) breaks h (break_one loop l w d z f)
    line_goes (line.Continue l) loop w d k h z f = left_by loop loop l w d (tree.Continue l) continues h (continue_one loop l w d z f)
    line_goes (line.Yield l e) loop w d k h z f =
        as_one loop w d (at l (λ w. just (yields s locals instance l e)))
        (stays_here loop l w d (λ w. just (yields s locals instance l e)) f (λ ls i. leads_just s (λ st f. MadeAs n instance ls w (st, w) f) d h (yields s locals instance l e) (yields_fit s locals n numbered instance ls w z d h i l e)))
    line_goes (line.Raise l e) loop w d k h z f = left_by loop (is_stop_call s locals e) l w d (tree.Stop l) stops h (λ q. stop_one loop l w d h z f)
    line_goes (line.Assert l e) loop w d k h z f =
        as_one loop w d (at l (λ w. claim s locals w l e)) (stays_here loop l w d (λ w. claim s locals w l e) f (λ ls i. claim_leads s locals n numbered instance ls w z d h i l e k))
    line_goes (line.Forbidden l) loop w d k h z f = runs_refused s (λ o y f. AtMostOne n instance loop w o y f) d (E2NotElaborable, l)
    line_goes (line.If l cs other) loop w d k h z f =
        let p = and_parts (choices_fit cs) (lines_fit other) k in
        as_one loop w d (if_line l (λ p. read_choices s locals instance loop l p ([], None) cs) (read_lines s locals instance loop [] other))
        (if_goes loop l w d (λ p. read_choices s locals instance loop l p ([], None) cs) (read_lines s locals instance loop [] other) h z (choices_go cs loop l w ([], None) w d p.0 h z.here (no_branch n instance loop w d z f))
        (λ y q g later i. lines_go other loop [] (goes_on w.here y) g p.1 later (starts_at loop (goes_on w.here y) g (goes_sized y w.here q z.here) i)))
    line_goes (line.While l e c) loop w d k h z f =
        let p = and_parts (keys_fit e) (lines_fit c) k in
        as_one loop w d (while_line s locals l e (read_lines s locals instance true [] c))
        (while_goes loop l e w d (read_lines s locals instance true [] c) p.0 h z f (λ g later i. lines_go c true [] (enters w.here w) g p.1 later (starts_at true (enters w.here w) g (enters_sized w w.here z z.here) i)))
    line_goes (line.For l t over c) loop w d k h z f =
        let p = and_parts (keys_fit over) (lines_fit c) k in
        as_one loop w d (for_line s locals l (lookup locals.numbers t) over (read_lines s locals instance true [] c))
        (for_goes loop l (lookup locals.numbers t) over w d (read_lines s locals instance true [] c) (λ u q. numbered t u q) p.0 h z f
        (λ y q i j g later m. lines_go c true [] (enters q y) g p.1 later (starts_at true (enters q y) g (enters_sized y q i j) m)))

    pub lines_go : (xs : Lines) (loop : Bool) (out : List Statement) (w : Work) (d : Design) → lines_fit xs ≡ true → Holds s d → Built n instance loop out w d → Runs s (λ ss y f. Goes n instance loop out w ss y f) d (read_lines s locals instance loop out xs w d)
    lines_go End loop out w d k h b = runs_gives s (λ ss y f. Goes n instance loop out w ss y f) d out w h (goes_self n instance loop out w d b)
    lines_go (Then x xs) loop out w d k h b =
        let p = and_parts (line_fits x) (lines_fit xs) k in
        runs_then s (λ o y f. AtMostOne n instance loop w o y f) (λ ss y f. Goes n instance loop out w ss y f) d (read_line s locals instance loop x w d) (λ o. read_lines s locals instance loop (with_any out o) xs) (line_goes x loop w d p.0 h b.sized b.fit)
        (λ o y f x' later i. let g = one_on loop out w y d f o b x' i in
        runs_weaker s (λ us z g. Goes n instance loop (with_any out o) y us z g) (λ ss y f. Goes n instance loop out w ss y f) f (read_lines s locals instance loop (with_any out o) xs y f)
        (λ us z g' j. goes_further n instance loop out (with_any out o) us w y z f g' g j) (lines_go xs loop (with_any out o) y f p.1 later g.built))

    choices_go : (cs : Choices) (loop : Bool) (l : ℕ) (w : Work) (done : Branches) (y : Work) (d : Design) → choices_fit cs ≡ true → Holds s d → SizedPaths n w.here → Branched n instance loop w done y d →
        Runs s (λ done z g. Branched n instance loop w done z g) d (read_choices s locals instance loop l w.here done cs y d)
    choices_go NoChoice loop l w done y d k h z b = runs_gives s (λ done z g. Branched n instance loop w done z g) d done y h b
    choices_go (OrElse c cs) loop l w done y d k h z b =
        let p = and_parts (choice_fits c) (choices_fit cs) k in
        runs_then s (λ r v f. Branched n instance loop w (with_branch done r v) v f) (λ done z g. Branched n instance loop w done z g) d (read_choice s locals instance loop l c (goes_on w.here y) d)
        (λ r v. read_choices s locals instance loop l w.here (with_branch done r v) cs v) (choice_goes c loop l w done y d p.0 h z b) (λ r v f x later i. choices_go cs loop l w (with_branch done r v) v f p.1 later z i)

    choice_goes : (c : Choice) (loop : Bool) (l : ℕ) (w : Work) (done : Branches) (y : Work) (d : Design) → choice_fits c ≡ true → Holds s d → SizedPaths n w.here → Branched n instance loop w done y d →
        Runs s (λ r z g. Branched n instance loop w (with_branch done r z) z g) d (read_choice s locals instance loop l c (goes_on w.here y) d)
    choice_goes (Where e c) loop l w done y d k h z b =
        let p = and_parts (keys_fit e) (lines_fit c) k in
        branch_goes loop l e w done y d (read_lines s locals instance loop [] c) p.0 h z b (λ g later i. lines_go c loop [] (goes_on w.here y) g p.1 later (starts_at loop (goes_on w.here y) g (goes_sized y w.here b.sized z) i))
