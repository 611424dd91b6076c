-- What is known of loops and of what leaves them.
use Rattle.std.proofs.Common.{◌≡◌, ℕ, ◌<◌, pos, Bool, true, false, not, ◌&&◌, ◌||◌, List, [], ◌∷◌, Option, Some, None, Result, Ok, Err, IfOk, refl, ap, sym, ◌∙◌, arith, length, length-set}
use Rattle.std.specs.Prelude.{slice_get, ◌==◌}
use Rattle.std.specs.Ordering.{int_eq}
use Rattle.std.specs.List.{list_all}
use Rattle.std.specs.Option.{option_map_or}
use Rattle.std.proofs.lemmas.Bool.{and_from, or_from}
use Rattle.mh_text.specs.declared.code.Code.{Code}
use Rattle.mh_text.specs.declared.code.Code.TheVariants.{E10KindClash}
use Rattle.mh_consts.specs.declared.scope.Scope.{Scope}
use Rattle.mh_consts.specs.Expression.{Ex}
use Rattle.mh_consts.specs.Names.{lookup}
use Rattle.mh_design.specs.declared.assigned.Flow.{Flow}
use Rattle.mh_design.specs.declared.design.Design.{Design}
use Rattle.mh_design.specs.declared.design.Kind.{Kind}
use Rattle.mh_design.specs.declared.design.Kind.TheVariants as kind
use Rattle.mh_design.specs.declared.design.Local.{Local as Variable}
use Rattle.mh_design.specs.Assigned.{both, passes, followed, next, is_sound, after_reading, reads_local, ends_read, has_turn, turn_begins, while_flow, for_flow, looped, walk, walk_block}
use Rattle.mh_design.specs.Constants.{constants_keep}
use Rattle.mh_design.specs.Kinds.{local_kind}
use Rattle.mh_design.specs.Numbering.{statements, block_statements}
use Rattle.mh_design.specs.Statements.{is_numeric, is_int_kind, kinds_fit, constants_fit, statement_fits}
use Rattle.mh_design.specs.Tree as tree
use Rattle.mh_design.specs.Tree.{Expression, Statement, Block, block, expression_of}
use Rattle.mh_exprs.specs.declared.locals.Locals.{Locals}
use Rattle.mh_lower.specs.declared.typed.Ends.{Ends}
use Rattle.mh_exprs.specs.declared.typed.Work.{Work}
use Rattle.mh_lower.specs.Bodies.{variable_as, variable, begins_at, begins, has_turns}
use Rattle.mh_exprs.specs.Leaves.{is_true, kind_at}
use Rattle.mh_lower.specs.Paths.{Paths, meet, assigned, breaks, continues, enters, leaves, turn, turned}
use Rattle.mh_lower.specs.Statements.{ends}
use Rattle.mh_exprs.specs.Step.{pure, just, chain}
use Rattle.mh_lower_laws.specs.Holds.{Holds, Extends}
use Rattle.mh_lower_laws.proofs.Growth.{grown}
use Rattle.mh_lower_laws.proofs.Having.{kind_fits_later}
use Rattle.mh_lower_laws.proofs.Keys.{keys_fit}
use Rattle.mh_lower_laws.proofs.PathLaws.{seen, flow_at, same_flow, both_none, seen_meet, true_set, walk_dead}
use Rattle.mh_lower_laws.proofs.Reading.{KindsIn, KindsFit, Grows, SizedPaths, Sized, own, own_kinds, leads_all, meet_sized, kind_there, kind_grows, kind_fits_there, is_read, stays}
use Rattle.mh_lower_laws.proofs.Running.{One, Goes}
use Rattle.mh_lower_laws.proofs.StatementGrowth.{numeric_later, all_keep}
use Rattle.mh_lower_laws.proofs.StatementsHave.{HasNumber, HasEnds, ends_lead}
use Rattle.mh_lower_laws.proofs.Stepping.{Leads, leads_pure, leads_refuse, leads_after, ok_if}

or_false : (a : Bool) → (a || false) ≡ a
or_false true = refl
or_false false = refl

-- ---- what leaves a loop

module _ (n : ℕ) (instance : Bool) (l : ℕ) (w : Work) (d : Design) (sized : Sized n w) (fit : KindsFit w d) where
  break_walked : (v : ℕ) (o : Option Bool) → seen v w.here ≡ o → flow_at v (breaks w) ≡ next (flow_at v w) o (λ a. walk v (tree.Break l) a)
  break_walked v None e = same_flow (flow_at v (breaks w)) (flow_at v w) refl (sym e) (seen_meet v w.breaks w.here ∙ ap (both (seen v w.breaks)) e ∙ both_none (seen v w.breaks)) refl
  break_walked v (Some a) e = same_flow (flow_at v (breaks w)) (followed (flow_at v w) (walk v (tree.Break l) a)) refl refl (seen_meet v w.breaks w.here ∙ ap (both (seen v w.breaks)) e) (sym (both_none (seen v w.continues)))

  pub one_break : One n instance true w (tree.Break l) (breaks w) d
  one_break = record {
    grows = λ v k q. q;
    sized = record { kinds = sized.kinds; here = tt; breaks = meet_sized n w.breaks w.here sized.breaks sized.here; continues = sized.continues };
    fit = fit;
    fits = λ ls k. refl;
    exits = refl;
    walked = λ v. break_walked v (seen v w.here) refl;
  }

  continue_walked : (v : ℕ) (o : Option Bool) → seen v w.here ≡ o → flow_at v (continues w) ≡ next (flow_at v w) o (λ a. walk v (tree.Continue l) a)
  continue_walked v None e = same_flow (flow_at v (continues w)) (flow_at v w) refl (sym e) refl (seen_meet v w.continues w.here ∙ ap (both (seen v w.continues)) e ∙ both_none (seen v w.continues))
  continue_walked v (Some a) e = same_flow (flow_at v (continues w)) (followed (flow_at v w) (walk v (tree.Continue l) a)) refl refl (sym (both_none (seen v w.breaks))) (seen_meet v w.continues w.here ∙ ap (both (seen v w.continues)) e)

  pub one_continue : One n instance true w (tree.Continue l) (continues w) d
  one_continue = record {
    grows = λ v k q. q;
    sized = record { kinds = sized.kinds; here = tt; breaks = sized.breaks; continues = meet_sized n w.continues w.here sized.continues sized.here };
    fit = fit;
    fits = λ ls k. refl;
    exits = refl;
    walked = λ v. continue_walked v (seen v w.here) refl;
  }

-- ---- `while`

module _ (n : ℕ) (instance loop : Bool) (l : ℕ) (w : Work) (e : Expression) (ss : List Statement) (z : Work) (d g : Design) (x : Extends d g) (sized : Sized n w)
    (test : (ls : List Variable) → KindsIn w ls → HasNumber w ls d e) (body : Goes n instance true [] (enters w.here w) ss z g) where
  while_sound : (v : ℕ) (a : Bool) → seen v w.here ≡ Some a → (walk_block v (block ss) (passes true a)).sound ≡ true
  while_sound v a q = ap (λ (f : Flow). f.sound) (ap (walk_block v (block ss)) (same_flow (passes true a) (flow_at v (enters w.here w)) refl (sym q) refl refl) ∙ body.walked v (flow_at v (enters w.here w)) refl)

  while_stays : (v : ℕ) (a : Bool) → seen v w.here ≡ Some a → walk v (tree.While l e (block ss)) a ≡ passes true a
  unfolding while_flow
  while_stays v a q = ap (λ s. passes s a) (and_from (is_sound a (reads_local v e)) (walk_block v (block ss) (passes true a)).sound (is_read v w a (reads_local v e) q ((test (own w) (own_kinds w)).assigned v)) (while_sound v a q))

  in_w : (ls : List Variable) → KindsIn z ls → KindsIn w ls
  in_w ls k v m q = k v m (body.grows v m q)

  pub one_while : One n instance loop w (tree.While l e (block ss)) (leaves w w.here z) g
  one_while = record {
    grows = body.grows;
    sized = record { kinds = body.built.sized.kinds; here = sized.here; breaks = sized.breaks; continues = sized.continues };
    fit = body.built.fit;
    fits = λ ls k.
        let t : HasNumber w ls d e = test ls (in_w ls k) in
        and_from (statement_fits g ls instance (tree.While l e (block ss))) (list_all (statement_fits g ls instance) (block_statements (block ss)))
        (and_from (is_numeric g ls e && (constants_keep g ls e && true)) true (and_from (is_numeric g ls e) (constants_keep g ls e && true) (numeric_later d g (grown d g x) ls e t.numeric)
        (all_keep d g (grown d g x) ls (e ∷ []) (and_from (is_numeric d ls e) true t.numeric refl) (and_from (constants_keep d ls e) true t.keeps refl))) refl) (body.built.fits ls k);
    exits = body.built.exits;
    walked = λ v. stays v w (λ a. walk v (tree.While l e (block ss)) a) (while_stays v);
  }

-- ---- `for`

-- a `for` has begun
pub record Begun (n : ℕ) (w : Work) (u : ℕ) (y : Ends) (z : Work) (d : Design) : Type 0 where
  pub ends : (ls : List Variable) → KindsIn w ls → HasEnds w ls d y
  pub variable : kind_at z u ≡ Some kind.Int
  pub grows : Grows w z
  pub sized : Sized n z
  pub fit : KindsFit z d
  pub here : z.here ≡ w.here
  pub breaks : z.breaks ≡ w.breaks
  pub continues : z.continues ≡ w.continues

pub record BegunAt (n : ℕ) (w : Work) (y : (ℕ × Ends) × Work) (d : Design) : Type 0 where
  pub below : y.0.0 < n
  pub begun : Begun n w y.0.0 y.0.1 y.1 d

is_int : (k : Kind) → is_int_kind k ≡ true → k ≡ kind.Int
is_int kind.Bool h = absurd (cc)
is_int kind.Int h = refl
is_int (kind.Bits b) h = absurd (cc)
is_int (kind.Item m) h = absurd (cc)

module _ (n : ℕ) (w : Work) (sized : Sized n w) where
  variable_has : (f : Design) (u : ℕ) (y : Ends) (o : Option Kind) → u < n → KindsFit w f → ((ls : List Variable) → KindsIn w ls → HasEnds w ls f y) → kind_at w u ≡ o → IfOk (variable_as w u o) (λ z. Begun n w u y z f)
  variable_has f u y None below g i q =
      let there : u < length w.kinds = omega (arith, below, sized.kinds) in
      record {
        ends = i;
        variable = kind_there w u kind.Int there;
        grows = kind_grows w u kind.Int q;
        sized = record { kinds = omega (arith, length-set w.kinds u (Some kind.Int), sized.kinds); here = sized.here; breaks = sized.breaks; continues = sized.continues };
        fit = kind_fits_there w u kind.Int f there refl g;
        here = refl;
        breaks = refl;
        continues = refl;
      }
  variable_has f u y (Some k) below g i q = ok_if (λ z. Begun n w u y z f) (is_int_kind k) (Ok w) (Err E10KindClash)
      (λ r. record { ends = i; variable = q ∙ ap Some (is_int k r); grows = λ v m e. e; sized = sized; fit = g; here = refl; breaks = refl; continues = refl }) (λ r. tt)

module _ (s : Scope) (locals : Locals) (n : ℕ) (numbered : (t : List ℕ) (v : ℕ) → lookup locals.numbers t ≡ Some v → v < n) (instance : Bool) (w : Work) (sized : Sized n w) (d : Design) (h : Holds s d) (fit : KindsFit w d) where
  ends_all : (over : Ex) → keys_fit over ≡ true → Leads s (λ y f. (ls : List Variable) → KindsIn w ls → HasEnds w ls f y) d (ends s locals w over d)
  ends_all over k = leads_all s w (λ ls y f. HasEnds w ls f y) d (ends s locals w over d) (λ ls i. ends_lead s locals n numbered instance ls w sized d h (record { kinds = i; fit = fit }) over k)

  begin_leads : (u : ℕ) (over : Ex) → u < n → keys_fit over ≡ true → Leads s (BegunAt n w) d (begins_at s locals u over w d)
  begin_leads u over below k =
      leads_after s (λ y f. (ls : List Variable) → KindsIn w ls → HasEnds w ls f y) (BegunAt n w) d (ends s locals w over d) (λ y. chain (just (variable w u)) (λ z. pure ((u, y), z))) (ends_all over k)
      (λ y f x later i. by_variable y f later (variable_as w u (kind_at w u)) (variable_has n w sized f u y (kind_at w u) below (λ v m q. kind_fits_later w (own w) d f x m (fit v m q)) i refl))
    where
      by_variable : (y : Ends) (f : Design) → Holds s f → (r : Result Work Code) → IfOk r (λ z. Begun n w u y z f) → Leads s (BegunAt n w) f (chain (just r) (λ z. pure ((u, y), z)) f)
      by_variable y f later (Ok z) i = leads_pure s (BegunAt n w) f later ((u, y), z) (record { below = below; begun = i })
      by_variable y f later (Err code) i = leads_refuse s (BegunAt n w) f code

  pub begins_lead : (o : Option ℕ) (over : Ex) → ((u : ℕ) → o ≡ Some u → u < n) → keys_fit over ≡ true → Leads s (BegunAt n w) d (begins s locals o over w d)
  unfolding begins
  begins_lead None over f k = leads_refuse s (BegunAt n w) d E10KindClash
  begins_lead (Some u) over f k = begin_leads u over (f u refl) k

-- a turn gives its variable a value
seen_assigned : (p : Paths) (u v n : ℕ) (a : Bool) → u < n → SizedPaths n p → seen v p ≡ Some a → seen v (assigned p u) ≡ Some (a || u == v)
seen_assigned None u v n a below z q = absurd (cc)
seen_assigned (Some bs) u v n a below z q = let e : is_true (slice_get bs v) ≡ a = cc in ap Some (true_set bs u v (omega (arith, below, z)) ∙ ap (λ b. b || u == v) e)

not_assigned : (p : Paths) (u v : ℕ) → seen v p ≡ None → seen v (assigned p u) ≡ None
not_assigned None u v q = refl
not_assigned (Some bs) u v q = absurd (cc)

module _ (n : ℕ) (instance loop : Bool) (l u : ℕ) (y : Ends) (w z : Work) (d : Design) (begun : Begun n w u y z d) (below : u < n) (ss : List Statement) (r : Work) (g : Design) (x : Extends d g) where
  -- the loop's body, by whether it has a turn
  abbrev Body : Option Bool → Type 0
  Body has = Goes n instance true [] (enters (turn has u z.here) z) ss r g

  loop_of : Statement
  loop_of = tree.For l u y.down (expression_of y.from) (expression_of y.to) y.step (block ss)

  -- the ends are read where every path has assigned what they name
  ends_sound : (v : ℕ) (a : Bool) → seen v w.here ≡ Some a → is_sound a (ends_read v (expression_of y.from) (expression_of y.to)) ≡ true
  ends_sound v a q =
      let e : HasEnds w (own w) d y = begun.ends (own w) (own_kinds w) in
      is_read v w a (ends_read v (expression_of y.from) (expression_of y.to)) q (λ f. or_from (reads_local v (expression_of y.from)) (reads_local v (expression_of y.to)) (e.from.assigned v f) (e.to.assigned v f))

  -- what a turn does
  turn_walked : (v : ℕ) (a : Bool) (here : Paths) → Goes n instance true [] (enters here z) ss r g → seen v here ≡ Some (a || u == v) → walk_block v (block ss) (passes true (a || u == v)) ≡ flow_at v r
  turn_walked v a here body q = ap (walk_block v (block ss)) (same_flow (passes true (a || u == v)) (flow_at v (enters here z)) refl (sym q) refl refl) ∙ body.walked v (flow_at v (enters here z)) refl

  after_turns : Option Bool → Work
  after_turns has = leaves z (turned has z.here r) r

  -- where the loop may have no turn, or has none
  no_turn_walked : (has : Option Bool) (v : ℕ) → seen v (after_turns has).here ≡ seen v w.here → ((a : Bool) → seen v w.here ≡ Some a → for_flow v has (expression_of y.from) (expression_of y.to) a (walk_block v (block ss) (passes true (a || u == v))) ≡ passes true a) →
      flow_at v (after_turns has) ≡ next (flow_at v w) (seen v w.here) (λ a. for_flow v has (expression_of y.from) (expression_of y.to) a (walk_block v (block ss) (passes true (a || u == v))))
  unfolding after_turns
  no_turn_walked has v e k =
      same_flow (flow_at v (leaves z (turned has z.here r) r)) (flow_at v w) refl e (ap (seen v) begun.breaks) (ap (seen v) begun.continues)
      ∙ stays v w (λ a. for_flow v has (expression_of y.from) (expression_of y.to) a (walk_block v (block ss) (passes true (a || u == v)))) k

  -- what follows the turns of a loop that has some
  turns_flow : (v : ℕ) (a : Bool) → seen v w.here ≡ Some a → Body (Some true) →
      flow_at v (after_turns (Some true)) ≡ followed (flow_at v w) (for_flow v (Some true) (expression_of y.from) (expression_of y.to) a (walk_block v (block ss) (passes true (a || u == v))))
  unfolding after_turns for_flow
  turns_flow v a q body =
      let z_here : seen v z.here ≡ Some a = ap (seen v) begun.here ∙ q in
      let t : walk_block v (block ss) (passes true (a || u == v)) ≡ flow_at v r = turn_walked v a (assigned z.here u) body (seen_assigned z.here u v n a below begun.sized.here z_here) in
      same_flow (flow_at v (leaves z (turned (Some true) z.here r) r)) (followed (flow_at v w) (after_reading (is_sound a (ends_read v (expression_of y.from) (expression_of y.to))) (looped (Some true) a (walk_block v (block ss) (passes true (a || u == v))))))
      (sym (and_from (is_sound a (ends_read v (expression_of y.from) (expression_of y.to))) (walk_block v (block ss) (passes true (a || u == v))).sound (ends_sound v a q) (ap (λ (f : Flow). f.sound) t)))
      (seen_meet v (meet r.here r.continues) r.breaks ∙ ap (λ o. both o (seen v r.breaks)) (seen_meet v r.here r.continues) ∙ sym (ap (λ (f : Flow). both (both f.falls f.continues) f.breaks) t))
      (ap (seen v) begun.breaks ∙ sym (both_none (seen v w.breaks)))
      (ap (seen v) begun.continues ∙ sym (both_none (seen v w.continues)))

  turns_dead : (v : ℕ) → seen v w.here ≡ None → Body (Some true) → flow_at v (after_turns (Some true)) ≡ flow_at v w
  unfolding after_turns
  turns_dead v q body =
      let e : seen v (assigned z.here u) ≡ None = not_assigned z.here u v (ap (seen v) begun.here ∙ q) in
      let k : flow_at v (enters (assigned z.here u) z) ≡ flow_at v r = sym (walk_dead v (block ss) (flow_at v (enters (assigned z.here u) z)) e) ∙ body.walked v (flow_at v (enters (assigned z.here u) z)) refl in
      same_flow (flow_at v (leaves z (turned (Some true) z.here r) r)) (flow_at v w) refl
      (seen_meet v (meet r.here r.continues) r.breaks ∙ ap (λ o. both o (seen v r.breaks)) (seen_meet v r.here r.continues) ∙ ap (λ (f : Flow). both (both f.falls f.continues) f.breaks) (sym k) ∙ ap (λ o. both (both o None) None) e ∙ sym q)
      (ap (seen v) begun.breaks) (ap (seen v) begun.continues)

  -- what the loop does, by whether it has a turn
  for_walked : (has : Option Bool) (v : ℕ) → Body has →
      flow_at v (after_turns has) ≡ next (flow_at v w) (seen v w.here) (λ a. for_flow v has (expression_of y.from) (expression_of y.to) a (walk_block v (block ss) (passes true (a || u == v))))
  unfolding after_turns for_flow
  for_walked None v body = no_turn_walked None v (ap (seen v) begun.here)
      (λ a q. ap (λ t. passes t a) (and_from (is_sound a (ends_read v (expression_of y.from) (expression_of y.to))) (walk_block v (block ss) (passes true (a || u == v))).sound (ends_sound v a q)
      (ap (λ (f : Flow). f.sound) (turn_walked v a (assigned z.here u) body (seen_assigned z.here u v n a below begun.sized.here (ap (seen v) begun.here ∙ q))))))
  for_walked (Some false) v body = no_turn_walked (Some false) v (ap (seen v) begun.here) (λ a q. ap (λ t. passes t a) (and_from (is_sound a (ends_read v (expression_of y.from) (expression_of y.to))) true (ends_sound v a q) refl))
  for_walked (Some true) v body = by_paths (seen v w.here) refl
    where
      by_paths : (o : Option Bool) → seen v w.here ≡ o → flow_at v (after_turns (Some true)) ≡ next (flow_at v w) o (λ a. for_flow v (Some true) (expression_of y.from) (expression_of y.to) a (walk_block v (block ss) (passes true (a || u == v))))
      by_paths None q = turns_dead v q body
      by_paths (Some a) q = turns_flow v a q body

  turned_sized : (has : Option Bool) → Body has → SizedPaths n (turned has z.here r)
  turned_sized None body = begun.sized.here
  turned_sized (Some false) body = begun.sized.here
  turned_sized (Some true) body = meet_sized n (meet r.here r.continues) r.breaks (meet_sized n r.here r.continues body.built.sized.here body.built.sized.continues) body.built.sized.breaks

  in_z : (has : Option Bool) → Body has → (ls : List Variable) → KindsIn r ls → KindsIn z ls
  in_z has body ls k v m q = k v m (body.grows v m q)

  for_fits : (has : Option Bool) → Body has → (ls : List Variable) → KindsIn r ls → list_all (statement_fits g ls instance) (statements loop_of) ≡ true
  unfolding loop_of
  for_fits has body ls k =
      let e : HasEnds w ls d y = begun.ends ls (λ v m q. k v m (body.grows v m (begun.grows v m q))) in
      let a : Expression = expression_of y.from in
      let b : Expression = expression_of y.to in
      let int : local_kind ls u ≡ Some kind.Int = in_z has body ls k u kind.Int begun.variable in
      and_from (statement_fits g ls instance loop_of) (list_all (statement_fits g ls instance) (block_statements (block ss)))
      (and_from (kinds_fit g ls loop_of && constants_fit g ls loop_of) true
      (and_from (kinds_fit g ls loop_of) (constants_fit g ls loop_of)
      (and_from (option_map_or is_int_kind (local_kind ls u) false && not (int_eq y.step (pos 0))) (is_numeric g ls (expression_of y.from) && is_numeric g ls (expression_of y.to))
      (and_from (option_map_or is_int_kind (local_kind ls u) false) (not (int_eq y.step (pos 0))) (ap (λ o. option_map_or is_int_kind o false) int) e.step)
      (and_from (is_numeric g ls (expression_of y.from)) (is_numeric g ls (expression_of y.to)) (numeric_later d g (grown d g x) ls (expression_of y.from) e.from.numeric) (numeric_later d g (grown d g x) ls (expression_of y.to) e.to.numeric)))
      (all_keep d g (grown d g x) ls (expression_of y.from ∷ expression_of y.to ∷ [])
      (and_from (is_numeric d ls (expression_of y.from)) _ e.from.numeric (and_from (is_numeric d ls (expression_of y.to)) true e.to.numeric refl))
      (and_from (constants_keep d ls (expression_of y.from)) _ e.from.keeps (and_from (constants_keep d ls (expression_of y.to)) true e.to.keeps refl)))) refl)
      (body.built.fits ls k)

  pub one_for : Body (has_turns y) → One n instance loop w (tree.For l u y.down (expression_of y.from) (expression_of y.to) y.step (block ss)) (leaves z (turned (has_turns y) z.here r) r) g
  unfolding has_turn turn_begins loop_of after_turns
  one_for body = record {
    grows = λ v k q. body.grows v k (begun.grows v k q);
    sized = record { kinds = body.built.sized.kinds; here = turned_sized (has_turns y) body; breaks = begun.sized.breaks; continues = begun.sized.continues };
    fit = body.built.fit;
    fits = for_fits (has_turns y) body;
    exits = body.built.exits;
    walked = λ v. for_walked (has_turns y) v body;
  }
