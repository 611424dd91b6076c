-- Each step of the machine in a world that fits leads to one that fits, and so does a source.
use Rattle.std.proofs.Common.{◌≡◌, ℕ, zero, suc, Bool, true, false, ◌&&◌, List, [], ◌∷◌, ◌++◌, length, ◌+◌, Option, Some, None, Result, Ok, Err, refl, ap, sym, ◌∙◌, subst, slice_get, drop, if◌then◌else◌, nat_eq}
use Rattle.std.specs.Prelude.{IfOk}
use Rattle.std.specs.List.{list_all}
use Rattle.std.proofs.lemmas.Bool.{and_parts, and_from}
use Rattle.std.proofs.lemmas.List.Folds.{list_all-append}
use Rattle.mh_pytree.specs.declared.expression.Operator.{Operator}
use Rattle.mh_text.specs.declared.code.Code.{Code}
use Rattle.mh_text.specs.declared.code.Code.TheVariants.{E1UnknownName, E2NotElaborable, E10KindClash}
use Rattle.mh_consts.specs.declared.kinds.Const.{Const, out-Const}
use Rattle.mh_consts.specs.declared.kinds.Const.TheOpen.{Const-F}
use Rattle.mh_consts.specs.declared.kinds.Const.TheVariants as c
use Rattle.mh_consts.specs.Expression as x
use Rattle.mh_consts.specs.Expression.{Ex, Exs, Head, Keys}
use Rattle.mh_consts.specs.Names.{lookup}
use Rattle.mh_consts.specs.Numbers as number
use Rattle.mh_consts.specs.Operators.{operated}
use Rattle.mh_design.specs.declared.design.Design.{Design}
use Rattle.mh_design.specs.WellFormed.{is_name}
use Rattle.mh_lower_laws.specs.Holds.{is_of}
use Rattle.mh_world.specs.declared.kinds.Flow.{Flow}
use Rattle.mh_world.specs.declared.kinds.Flow.TheVariants.{Goes, Leaves, Again, Returns}
use Rattle.mh_world.specs.declared.kinds.Mark.{Mark}
use Rattle.mh_world.specs.declared.kinds.Mark.TheVariants.{Plain, Blocked, Generates}
use Rattle.mh_world.specs.Statements as s
use Rattle.mh_world.specs.Statements.{St, Fn, Func, Block, Choice, Choices, Parameter, Target, ToName, ToItem, ToNames, ToNothing, End, Then, Where, NoChoice, OrElse, line_of}
use Rattle.mh_world.specs.World.{World, Broken, Bindings, Run, after, chain, pure, refuse, at, seeing, given, counted, begins}
use Rattle.mh_world.specs.Seen.{name}
use Rattle.mh_world.specs.Named.{bind_name, push_inner, pop_inner}
use Rattle.mh_world.specs.Lists.{new_list, set_item, get_item, items_of, item}
use Rattle.mh_world.specs.Heads.{operate, operate_in, call_builtin}
use Rattle.mh_world.specs.Functions.{Called, Caller, marked, parameters_keep, callee, enter, returned, leave}
use Rattle.mh_world_laws.specs.Sources.{IsSource, IsDefinition, ChoiceParts, ChoicesParts, target_fits}
use Rattle.mh_world_laws.specs.Sources as source
use Rattle.mh_world_laws.specs.Fits.{Fits, Later, are_of, is_of_if_any, arguments_fit}
use Rattle.mh_world_laws.specs.Laws.{Kept, Anything, IsOf, AreOf, IsOfIfAny, FlowFits, CalledFits}
use Rattle.mh_elab.specs.Elaboration.{truth, importable, bind_pairs, import_names, bind_names, unpack, put, held, is_target, update, def_fits, define_as, leave_loop, executed}
use Rattle.mh_elab.specs.Machine.{Job, Operates, Puts, Reads, Defines, Frame, Parts, AndRight, OrRight, AsTruth, Collecting, Collects, Drops, Assigns, Updates, Returning, Chooses, Begins, Tests, Turns, Goes_over, Rest, Back, Config, Eval, Give, Exec, Ends, Final, Stuck, to, step, enter_call, call_function, call_value, call_first, operates, operates_in, finish, part, next_part, gather_turn, collect_turn, test_turn, each_turn, over_turn, choose_turn, define_turn, begin, exec, eval, give, rested, tested, gone_over, ended}
use Rattle.mh_elab.proofs.Comes.{Comes, there, go}
use Rattle.mh_elab.proofs.Ends.{starts}
use Rattle.mh_elab.proofs.Fitting.{JobFits, FrameFits, FramesFit, Stands, ConfigFits, Laws}

-- what follows for each item follows for all
all_then : {X : Type 0} (p q : X → Bool) (xs : List X) → ((x : X) → p x ≡ true → q x ≡ true) → list_all p xs ≡ true → list_all q xs ≡ true
all_then p q [] f h = refl
all_then p q (x ∷ xs) f h = let a = and_parts (p x) (list_all p xs) h in and_from (q x) (list_all q xs) (f x a.0) (all_then p q xs f a.1)

-- what holds of all items holds of one
one_of : {X : Type 0} (p : X → Bool) (xs : List X) (n : ℕ) (x : X) → list_all p xs ≡ true → slice_get xs n ≡ Some x → p x ≡ true
one_of p [] n x h e = absurd (cc)
one_of p (y ∷ xs) zero x h e = let q : y ≡ x = cc in ap p (sym q) ∙ (and_parts (p y) (list_all p xs) h).0
one_of p (y ∷ xs) (suc n) x h e = one_of p xs n x (and_parts (p y) (list_all p xs) h).1 e

rest_of : {X : Type 0} (p : X → Bool) (xs : List X) → list_all p xs ≡ true → list_all p (drop 1 xs) ≡ true
rest_of p [] h = refl
rest_of p (x ∷ xs) h = (and_parts (p x) (list_all p xs) h).1

one_more : (d : Design) (vs : List Const) (v : Const) → are_of d vs ≡ true → is_of d v ≡ true → are_of d (vs ++ v ∷ []) ≡ true
one_more d vs v h k = list_all-append (is_of d) vs (v ∷ []) ∙ and_from (are_of d vs) (is_of d v && true) h (and_from (is_of d v) true k refl)

module _ (laws : Laws) where
  -- ---- one thing after another

  moved : {A B : Type 0} {holds : Design → A → Type 0} (keeps : Design → B → Type 0) {w : World} (y : A) (u : World) (r : Result (B × World) Broken) → Kept holds w y u →
      IfOk r (λ x. Kept keeps u x.0 x.1) → IfOk r (λ x. Kept keeps w x.0 x.1)
  moved keeps {w = w} y u (Ok x) h k = record { fits = k.fits; later = laws.on w.design u.design x.1.design h.later k.later; value = k.value }
  moved keeps y u (Err b) h k = tt

  chained : {A B : Type 0} (holds : Design → A → Type 0) (keeps : Design → B → Type 0) {w : World} (r : Result (A × World) Broken) (f : A → Run B) → IfOk r (λ x. Kept holds w x.0 x.1) →
      ((y : A) (u : World) → Kept holds w y u → IfOk (f y u) (λ x. Kept keeps u x.0 x.1)) → IfOk (after r (λ x. f x.0 x.1)) (λ x. Kept keeps w x.0 x.1)
  chained holds keeps (Ok x) f h k = moved keeps x.0 x.1 (f x.0 x.1) h (k x.0 x.1 h)
  chained holds keeps (Err b) f h k = tt

  still : {A : Type 0} {holds : Design → A → Type 0} {w : World} (y : A) → Fits w → holds w.design y → Kept holds w y w
  still {w = w} y h k = record { fits = h; later = laws.same w.design; value = k }

  to_fits : {A : Type 0} {holds : Design → A → Type 0} {w : World} (r : Result (A × World) Broken) (g : A → World → Config) → IfOk r (λ x. Kept holds w x.0 x.1) →
      ((y : A) (u : World) → Kept holds w y u → ConfigFits (g y u)) → ConfigFits (to r g)
  to_fits (Ok x) g h f = f x.0 x.1 h
  to_fits (Err b) g h f = tt

  if_given : {A B : Type 0} (keeps : Design → B → Type 0) (w : World) (o : Option A) (code : Code) (l : ℕ) (f : A → Run B) →
      ((y : A) → o ≡ Some y → IfOk (f y w) (λ x. Kept keeps w x.0 x.1)) → IfOk (given o code l f w) (λ x. Kept keeps w x.0 x.1)
  if_given keeps w None code l f k = tt
  if_given keeps w (Some y) code l f k = k y refl

  -- ---- what waits stays

  are_stay : (d e : Design) → Later d e → (vs : List Const) → are_of d vs ≡ true → are_of e vs ≡ true
  are_stay d e g vs h = all_then (is_of d) (is_of e) vs (λ v k. laws.values d e g v k) h

  job_stays : (d e : Design) → Later d e → (j : Job) → JobFits d j → JobFits e j
  job_stays d e g (Operates a) h = tt
  job_stays d e g (Puts t v) h = (h.0, laws.values d e g v h.1)
  job_stays d e g (Reads op t a) h = h
  job_stays d e g (Defines m f) h = h

  frame_stays : (d e : Design) → Later d e → (f : Frame) → FrameFits d f → FrameFits e f
  frame_stays d e g (Parts j parts done) h = (job_stays d e g j h.0, are_stay d e g done h.1)
  frame_stays d e g (AndRight b) h = tt
  frame_stays d e g (OrRight b) h = tt
  frame_stays d e g AsTruth h = tt
  frame_stays d e g (Collecting a t) h = tt
  frame_stays d e g (Collects n a t v i done) h = (laws.values d e g v h.0, are_stay d e g done h.1)
  frame_stays d e g Drops h = tt
  frame_stays d e g (Assigns t) h = h
  frame_stays d e g (Updates op t us a) h = (h.0, (are_stay d e g us h.1.0, laws.values d e g a h.1.1))
  frame_stays d e g Returning h = tt
  frame_stays d e g (Chooses loop b cs other) h = h
  frame_stays d e g (Begins t b) h = h
  frame_stays d e g (Tests n l a b) h = h
  frame_stays d e g (Turns n l a b) h = h
  frame_stays d e g (Goes_over n l t v i b) h = (h.0, (laws.values d e g v h.1.0, h.1.1))
  frame_stays d e g (Rest loop b) h = h
  frame_stays d e g (Back def caller l most) h = tt

  frames_stay : (d e : Design) → Later d e → (k : List Frame) → FramesFit d k → FramesFit e k
  frames_stay d e g [] h = tt
  frames_stay d e g (f ∷ k) h = (frame_stays d e g f h.0, frames_stay d e g k h.1)

  stand : {A : Type 0} {holds : Design → A → Type 0} {w : World} (k : List Frame) (y : A) (u : World) → Stands k w → Kept holds w y u → Stands k u
  stand {w = w} k y u h g = record { fits = g.fits; frames = frames_stay w.design u.design g.later k h.frames }

  under : {w : World} (f : Frame) (k : List Frame) → Stands k w → FrameFits w.design f → Stands (f ∷ k) w
  under f k h g = record { fits = h.fits; frames = (g, h.frames) }

  inner : {w : World} {f : Frame} {k : List Frame} → Stands (f ∷ k) w → Stands k w
  inner h = record { fits = h.fits; frames = h.frames.1 }

  -- ---- assignments

  binds_names : (l : ℕ) (ts : List (List ℕ)) (vs : List Const) (w : World) → Fits w → list_all is_name ts ≡ true → are_of w.design vs ≡ true →
      IfOk (bind_names l ts vs w) (λ x. Kept Anything w x.0 x.1)
  binds_names l (t ∷ ts) (v ∷ vs) w h n g =
      let a = and_parts (is_name t) (list_all is_name ts) n in
      let b = and_parts (is_of w.design v) (are_of w.design vs) g in
      chained Anything Anything (bind_name l t v w) (λ y. bind_names l ts vs) (laws.bindings l t v a.0 w h b.0)
      (λ y u k. binds_names l ts vs u k.fits a.1 (are_stay w.design u.design k.later vs b.1))
  binds_names l [] vs w h n g = still tt h tt
  binds_names l (t ∷ ts) [] w h n g = still tt h tt

  if_unpacked : (l : ℕ) (b : Bool) (ts : List (List ℕ)) (vs : List Const) (w : World) → Fits w → list_all is_name ts ≡ true → are_of w.design vs ≡ true →
      IfOk ((if b then bind_names l ts vs else refuse E2NotElaborable l) w) (λ x. Kept Anything w x.0 x.1)
  if_unpacked l true ts vs w h n g = binds_names l ts vs w h n g
  if_unpacked l false ts vs w h n g = tt

  puts : (l : ℕ) (t : Target) (v : Const) (us : List Const) (w : World) → Fits w → target_fits t ≡ true → is_of w.design v ≡ true →
      IfOk (put l t v us w) (λ x. Kept Anything w x.0 x.1)
  puts l (ToName t) v us w h n g = laws.bindings l t v n w h g
  puts l (ToItem base place) v us w h n g =
      if_given Anything w (slice_get us 0) _ l _ (λ a e. if_given Anything w (slice_get us 1) _ l _ (λ i q. laws.set_items l a i v w h g))
  puts l (ToNames ts) v us w h n g =
      chained AreOf Anything (seeing l (items_of v) w) (unpack l ts) (laws.all_items l v w h g)
      (λ vs u k. if_unpacked l (nat_eq (length ts) (length vs)) ts vs u k.fits n k.value)
  puts l (ToNothing parts) v us w h n g = tt

  holds_first : (l : ℕ) (us : List Const) (w : World) → Fits w → are_of w.design us ≡ true → IfOk (given (slice_get us 0) E10KindClash l pure w) (λ x. Kept IsOf w x.0 x.1)
  holds_first l us w h g = if_given IsOf w (slice_get us 0) _ l pure (λ a e. still a h (one_of (is_of w.design) us 0 a g e))

  helds : (l : ℕ) (t : Target) (us : List Const) (w : World) → Fits w → are_of w.design us ≡ true → IfOk (held l t us w) (λ x. Kept IsOf w x.0 x.1)
  helds l (ToName t) us w h g = laws.names l t w h
  helds l (ToItem base place) us w h g =
      if_given IsOf w (slice_get us 0) _ l _ (λ a e. if_given IsOf w (slice_get us 1) _ l _ (λ i q. laws.get_items l a i w h (one_of (is_of w.design) us 0 a g e)))
  helds l (ToNames ts) us w h g = holds_first l us w h g
  helds l (ToNothing parts) us w h g = holds_first l us w h g

  if_updated : (l : ℕ) (is : Bool) (op : Operator) (t : Target) (us : List Const) (a b : Const) (w : World) → Fits w → target_fits t ≡ true → is_of w.design a ≡ true → is_of w.design b ≡ true →
      IfOk ((if is then chain (at l (operated op a b)) (λ v. put l t v us) else refuse E2NotElaborable l) w) (λ x. Kept Anything w x.0 x.1)
  if_updated l false op t us a b w h n g q = tt
  if_updated l true op t us a b w h n g q =
      chained IsOf Anything (at l (operated op a b) w) (λ v. put l t v us) (laws.operated l op a b w h (and_from (is_of w.design a) (is_of w.design b) g q))
      (λ v u k. puts l t v us u k.fits n k.value)

  updates : (l : ℕ) (op : Operator) (t : Target) (us : List Const) (a b : Const) (w : World) → Fits w → target_fits t ≡ true → is_of w.design a ≡ true → is_of w.design b ≡ true →
      IfOk (update l op t us a b w) (λ x. Kept Anything w x.0 x.1)
  updates l op t us a b w h n g q = if_updated l (is_target t) op t us a b w h n g q

  -- ---- imports and definitions

  binds_pairs : (l : ℕ) (bs : Bindings) (w : World) → Fits w → ((d : Design) → arguments_fit d bs ≡ true) → IfOk (bind_pairs l bs w) (λ x. Kept Anything w x.0 x.1)
  binds_pairs l [] w h g = still tt h tt
  binds_pairs l (b ∷ bs) w h g =
      let parts = λ (d : Design). and_parts (is_name b.0 && is_of d b.1) (arguments_fit d bs) (g d) in
      let a = and_parts (is_name b.0) (is_of w.design b.1) (parts w.design).0 in
      chained Anything Anything (bind_name l b.0 b.1 w) (λ y. bind_pairs l bs) (laws.bindings l b.0 b.1 a.0 w h a.1)
      (λ y u k. binds_pairs l bs u k.fits (λ d. (parts d).1))

  imports_names : (l : ℕ) (ts : List (List ℕ)) (w : World) → Fits w → list_all is_name ts ≡ true → IfOk (import_names l ts w) (λ x. Kept Anything w x.0 x.1)
  imports_names l [] w h n = still tt h tt
  imports_names l (t ∷ ts) w h n =
      let a = and_parts (is_name t) (list_all is_name ts) n in
      chained Anything Anything (given (lookup importable t) E1UnknownName l (bind_name l t) w) (λ y. import_names l ts)
      (if_given Anything w (lookup importable t) _ l _ (λ v e. laws.bindings l t v a.0 w h (laws.imports.one w.design t v e)))
      (λ y u k. imports_names l ts u k.fits a.1)

  defines : (m : Mark) (f : Fn) (vs : List Const) (w : World) → Fits w → IsDefinition f → are_of w.design vs ≡ true → IfOk (define_as m f vs w) (λ x. Kept Anything w x.0 x.1)
  defines Generates (Func l t ms ps b) vs w h q g = laws.generators l t ms ps b q w h
  defines Blocked (Func l t ms ps b) vs w h q g = let p = laws.definitions l t ms ps b q in laws.functions l t true ps vs b p.0 p.1 p.2 w h g
  defines Plain (Func l t ms ps b) vs w h q g = let p = laws.definitions l t ms ps b q in laws.functions l t false ps vs b p.0 p.1 p.2 w h g

  keeps_parameters : (r : Result (Unit {0}) Broken) (w : World) → Fits w → IfOk {T = Unit {0} × World} (after r (λ u. Ok (u, w))) (λ x. Kept Anything w x.0 x.1)
  keeps_parameters (Ok u) w h = still tt h tt
  keeps_parameters (Err b) w h = tt

  fits_def : (m : Mark) (l : ℕ) (ps : List Parameter) (w : World) → Fits w → IfOk (def_fits m l ps w) (λ x. Kept Anything w x.0 x.1)
  fits_def Generates l ps w h = still tt h tt
  fits_def Blocked l ps w h = keeps_parameters (parameters_keep l ps) w h
  fits_def Plain l ps w h = keeps_parameters (parameters_keep l ps) w h

  -- ---- calls and operations

  gives_value : {w : World} (l n : ℕ) (k : List Frame) (r : Result (Const × World) Broken) → Stands k w → IfOk r (λ x. Kept IsOf w x.0 x.1) → ConfigFits (to r (λ v w. Give l n v k w))
  gives_value l n k r h g = to_fits r _ g (λ v u q. (stand k v u h q, q.value))

  goes_on : {w : World} {A : Type 0} (holds : Design → A → Type 0) (n : ℕ) (k : List Frame) (r : Result (A × World) Broken) → Stands k w → IfOk r (λ x. Kept holds w x.0 x.1) → ConfigFits (to r (λ v w. Ends n Goes k w))
  goes_on holds n k r h g = to_fits r _ g (λ v u q. (stand k v u h q, tt))

  enters : (l n : ℕ) (d : Called) (k : List Frame) (w : World) → Stands k w → CalledFits w.design d → ConfigFits (enter_call l n d k w)
  enters l zero d k w h g = tt
  enters l (suc n) d k w h g =
      to_fits (enter d w) _ (laws.enters d w h.fits g) (λ y u q. (under (Back d.line y l (suc n)) k (stand k y u h q) tt, g.body))

  calls : (l n i : ℕ) (keys : Keys) (vs : List Const) (k : List Frame) (w : World) → Stands k w → are_of w.design vs ≡ true → ConfigFits (call_function l n i keys vs k w)
  calls l n i keys vs k w h g = to_fits (callee l i keys vs w) _ (laws.callees l i keys vs w h.fits g) (λ d u q. enters l n d k u (stand k d u h q) q.value)

  calls_value : (l n : ℕ) (keys : Keys) (vs : List Const) (f : Const-F Const) (k : List Frame) (w : World) → Stands k w → are_of w.design vs ≡ true → ConfigFits (call_value l n keys vs f k w)
  calls_value l n keys vs (Const-F.Function i) k w h g = calls l n i keys (drop 1 vs) k w h (rest_of (is_of w.design) vs g)
  calls_value l n keys vs (Const-F.Builtin b) k w h g = gives_value l n k (call_builtin l b keys vs w) h (laws.builtins l b keys vs w h.fits g)
  calls_value l n keys vs f k w h g = tt

  calls_first : (l n : ℕ) (keys : Keys) (vs : List Const) (o : Option Const) (k : List Frame) (w : World) → Stands k w → are_of w.design vs ≡ true → ConfigFits (call_first l n keys vs o k w)
  calls_first l n keys vs None k w h g = tt
  calls_first l n keys vs (Some f) k w h g = calls_value l n keys vs (out-Const f) k w h g

  operation : (l n : ℕ) (a : Head) (vs : List Const) (k : List Frame) (w : World) → Stands k w → are_of w.design vs ≡ true → ConfigFits (to (operate l a vs w) (λ v w. Give l n v k w))
  operation l n a vs k w h g = gives_value l n k (operate l a vs w) h (laws.operations l a vs w h.fits g)

  operated_fits : (l n : ℕ) (a : Head) (vs : List Const) (k : List Frame) (w : World) → Stands k w → are_of w.design vs ≡ true → ConfigFits (operates l n a vs k w)
  operated_fits l n (x.Call keys) vs k w h g = calls_first l n keys vs (slice_get vs 0) k w h g
  operated_fits l n (x.Apply sign) vs k w h g = operation l n (x.Apply sign) vs k w h g
  operated_fits l n x.Negation vs k w h g = operation l n x.Negation vs k w h g
  operated_fits l n (x.Both op) vs k w h g = operation l n (x.Both op) vs k w h g
  operated_fits l n (x.Attribute t) vs k w h g = operation l n (x.Attribute t) vs k w h g
  operated_fits l n x.Index vs k w h g = operation l n x.Index vs k w h g
  operated_fits l n x.Slice vs k w h g = operation l n x.Slice vs k w h g
  operated_fits l n x.SliceFrom vs k w h g = operation l n x.SliceFrom vs k w h g
  operated_fits l n (x.Resize t) vs k w h g = operation l n (x.Resize t) vs k w h g
  operated_fits l n x.Whole vs k w h g = operation l n x.Whole vs k w h g
  operated_fits l n x.TupleOf vs k w h g = operation l n x.TupleOf vs k w h g
  operated_fits l n x.ListOf vs k w h g = operation l n x.ListOf vs k w h g
  operated_fits l n (x.Method t keys) vs k w h g = operation l n (x.Method t keys) vs k w h g

  other_fits : (l n : ℕ) (e : Ex) (vs : List Const) (k : List Frame) (w : World) → Stands k w → are_of w.design vs ≡ true → ConfigFits (to (operate_in l e vs w) (λ v w. Give l n v k w))
  other_fits l n e vs k w h g = gives_value l n k (operate_in l e vs w) h (laws.operations_in l e vs w h.fits g)

  operated_in : (l n : ℕ) (e : Ex) (vs : List Const) (k : List Frame) (w : World) → Stands k w → are_of w.design vs ≡ true → ConfigFits (operates_in l n e vs k w)
  operated_in l n (x.Op a es) vs k w h g = operated_fits l n a vs k w h g
  operated_in l n (x.Number z) vs k w h g = other_fits l n (x.Number z) vs k w h g
  operated_in l n (x.Str t) vs k w h g = other_fits l n (x.Str t) vs k w h g
  operated_in l n (x.Truth b) vs k w h g = other_fits l n (x.Truth b) vs k w h g
  operated_in l n x.Nothing vs k w h g = other_fits l n x.Nothing vs k w h g
  operated_in l n (x.Name t) vs k w h g = other_fits l n (x.Name t) vs k w h g
  operated_in l n (x.And a b) vs k w h g = other_fits l n (x.And a b) vs k w h g
  operated_in l n (x.Or a b) vs k w h g = other_fits l n (x.Or a b) vs k w h g
  operated_in l n (x.Collect a t b) vs k w h g = other_fits l n (x.Collect a t b) vs k w h g

  -- ---- parts

  finishes : (l n : ℕ) (j : Job) (vs : List Const) (k : List Frame) (w : World) → Stands k w → JobFits w.design j → are_of w.design vs ≡ true → ConfigFits (finish l n j vs k w)
  finishes l n (Operates e) vs k w h q g = operated_in l n e vs k w h g
  finishes l n (Puts t v) vs k w h q g = goes_on Anything n k (put l t v vs w) h (puts l t v vs w h.fits q.0 q.1)
  finishes l n (Reads op t e) vs k w h q g =
      to_fits (held l t vs w) _ (helds l t vs w h.fits g)
      (λ a u m. under (Updates op t vs a) k (stand k a u h m) (q, (are_stay w.design u.design m.later vs g, m.value)))
  finishes l n (Defines m f) vs k w h q g = goes_on Anything n k (define_as m f vs w) h (defines m f vs w h.fits q g)

  next_fits : (l n : ℕ) (j : Job) (es : Exs) (done : List Const) (o : Option Ex) (k : List Frame) (w : World) → Stands k w → JobFits w.design j → are_of w.design done ≡ true → ConfigFits (next_part l n j es done o k w)
  next_fits l n j es done None k w h q g = finishes l n j done k w h q g
  next_fits l n j es done (Some e) k w h q g = under (Parts j es done) k h (q, g)

  -- ---- lists with `for`, and loops

  gathers : (o : Option Const) (i l n : ℕ) (e : Ex) (t : List ℕ) (v : Const) (j : ℕ) (done : List Const) (k : List Frame) (w : World) →
      Stands k w → is_of_if_any w.design o ≡ true → is_of w.design v ≡ true → are_of w.design done ≡ true → ConfigFits (gather_turn o i l n e t v j done k w)
  gathers None i l n e t v j done k w h q g m = gives_value l n k (new_list l done w) h (laws.new_lists l done w h.fits m)
  gathers (Some y) i l n e t v j done k w h q g m =
      to_fits (counted l w) _ (laws.counted l w h.fits)
      (λ z u p. let r = laws.pushes t y u p.fits (laws.values w.design u.design p.later y q) in
      let s = stand k tt (push_inner t y u) (stand k z u h p) r in
      let later = laws.on w.design u.design (push_inner t y u).design p.later r.later in
      under (Collects i e t v (j + 1) done) k s (laws.values w.design _ later v g, are_stay w.design _ later done m))

  collects : (i l n : ℕ) (e : Ex) (t : List ℕ) (v : Const) (j : ℕ) (done : List Const) (k : List Frame) (w : World) →
      Stands k w → is_of w.design v ≡ true → are_of w.design done ≡ true → ConfigFits (collect_turn i l n e t v j done k w)
  collects zero l n e t v j done k w h g m = tt
  collects (suc i) l n e t v j done k w h g m =
      to_fits (item l v j w) _ (laws.items l v j w h.fits g)
      (λ y u q. gathers y i l n e t v j done k u (stand k y u h q) q.value (laws.values w.design u.design q.later v g) (are_stay w.design u.design q.later done m))

  tests_fit : (i l n : ℕ) (e : Ex) (b : Block) (k : List Frame) (w : World) → Stands k w → IsSource b → ConfigFits (test_turn i l n e b k w)
  tests_fit zero l n e b k w h g = tt
  tests_fit (suc i) l n e b k w h g = under (Tests i l e b) k h g

  each_fits : (o : Option Const) (i l n : ℕ) (t : List ℕ) (v : Const) (j : ℕ) (b : Block) (k : List Frame) (w : World) →
      Stands k w → is_of_if_any w.design o ≡ true → is_of w.design v ≡ true → is_name t ≡ true → IsSource b → ConfigFits (each_turn o i l n t v j b k w)
  each_fits None i l n t v j b k w h q g m p = (h, tt)
  each_fits (Some y) i l n t v j b k w h q g m p =
      to_fits (bind_name l t y w) _ (laws.bindings l t y m w h.fits q)
      (λ z u r. (under (Goes_over i l t v (j + 1) b) k (stand k z u h r) (m, (laws.values w.design u.design r.later v g, p)), p))

  over_fits : (i l n : ℕ) (t : List ℕ) (v : Const) (j : ℕ) (b : Block) (k : List Frame) (w : World) →
      Stands k w → is_of w.design v ≡ true → is_name t ≡ true → IsSource b → ConfigFits (over_turn i l n t v j b k w)
  over_fits zero l n t v j b k w h g m p = tt
  over_fits (suc i) l n t v j b k w h g m p =
      to_fits (item l v j w) _ (laws.items l v j w h.fits g)
      (λ y u q. each_fits y i l n t v j b k u (stand k y u h q) q.value (laws.values w.design u.design q.later v g) m p)

  -- ---- statements

  chooses : (l n : ℕ) (loop : Bool) (cs : Choices) (other : Block) (k : List Frame) (w : World) → Stands k w → ChoicesParts cs → IsSource other → ConfigFits (choose_turn l n loop cs other k w)
  chooses l n loop NoChoice other k w h p q = (h, q)
  chooses l n loop (OrElse (Where e b) cs) other k w h p q = under (Chooses loop b cs other) k h (p.0, (p.1, q))

  defines_turn : (n : ℕ) (f : Fn) (k : List Frame) (w : World) → Stands k w → IsDefinition f → ConfigFits (define_turn n f k w)
  defines_turn n (Func l t ms ps b) k w h p =
      to_fits (marked l ms w) _ (laws.marks l ms w h.fits)
      (λ m u q. to_fits (def_fits m l ps u) _ (fits_def m l ps u q.fits)
      (λ y z r. next_fits l n (Defines m (Func l t ms ps b)) _ [] _ k z (stand k y z (stand k m u h q) r) p refl))

  begins_fit : (n : ℕ) (loop : Bool) (st : St) (k : List Frame) (w : World) → Stands k w → source.Parts st → ConfigFits (begin n loop st k w)
  begins_fit n loop (s.Value l e) k w h p = under Drops k h tt
  begins_fit n loop (s.Assign l t left e) k w h p = under (Assigns t) k h p
  begins_fit n loop (s.Augment l op t left e) k w h p = next_fits l n (Reads op t e) _ [] _ k w h p refl
  begins_fit n loop (s.Pass l) k w h p = (h, tt)
  begins_fit n true (s.Break l) k w h p = (h, tt)
  begins_fit n false (s.Break l) k w h p = tt
  begins_fit n true (s.Continue l) k w h p = (h, tt)
  begins_fit n false (s.Continue l) k w h p = tt
  begins_fit n loop (s.Return l e) k w h p = under Returning k h tt
  begins_fit n loop (s.Yield l e) k w h p = tt
  begins_fit n loop (s.Raise l e) k w h p = tt
  begins_fit n loop (s.Assert l e) k w h p = tt
  begins_fit n loop (s.ImportAll l) k w h p = goes_on Anything n k (bind_pairs l importable w) h (binds_pairs l importable w h.fits laws.imports.all)
  begins_fit n loop (s.Import l ts) k w h p = goes_on Anything n k (import_names l ts w) h (imports_names l ts w h.fits p)
  begins_fit n loop (s.Define f) k w h p = defines_turn n f k w h p
  begins_fit n loop (s.If l cs other) k w h p = chooses l n loop cs other k w h p.0 p.1
  begins_fit n loop (s.While l e b) k w h p = tests_fit (w.left + 1) l n e b k w h p
  begins_fit n loop (s.For l t e b) k w h p = under (Begins t b) k h p

  executes : (n : ℕ) (loop : Bool) (b : Block) (k : List Frame) (w : World) → Stands k w → IsSource b → ConfigFits (exec n loop b k w)
  executes n loop End k w h p = (h, tt)
  executes n loop (Then st b) k w h p =
      let q = laws.blocks st b p in
      to_fits (counted (line_of st) w) _ (laws.counted (line_of st) w h.fits) (λ y u r. begins_fit n loop st (Rest loop b ∷ k) u (under (Rest loop b) k (stand k y u h r) q.1) q.0)

  evaluates : (l n : ℕ) (e : Ex) (k : List Frame) (w : World) → Stands k w → ConfigFits (eval l n e k w)
  evaluates l n (x.Number z) k w h = (h, (laws.plain w.design).int z)
  evaluates l n (x.Str t) k w h = (h, (laws.plain w.design).str t)
  evaluates l n (x.Truth b) k w h = (h, (laws.plain w.design).truth b)
  evaluates l n x.Nothing k w h = (h, (laws.plain w.design).none)
  evaluates l n (x.Name t) k w h = gives_value l n k (name l t w) h (laws.names l t w h.fits)
  evaluates l n (x.And a b) k w h = under (AndRight b) k h tt
  evaluates l n (x.Or a b) k w h = under (OrRight b) k h tt
  evaluates l n (x.Collect a t b) k w h = under (Collecting a t) k h tt
  evaluates l n (x.Op a es) k w h = next_fits l n (Operates (x.Op a es)) es [] _ k w h tt refl

  -- ---- what waits

  keeps_truth : (l : ℕ) (w : World) → Fits w → (r : Result Bool Code) → IfOk (at l r w) (λ x. Kept Anything w x.0 x.1)
  keeps_truth l w h (Ok b) = still b h tt
  keeps_truth l w h (Err code) = tt

  tells : (l : ℕ) (v : Const) (w : World) → Fits w → IfOk (truth l v w) (λ x. Kept Anything w x.0 x.1)
  tells l v w h = keeps_truth l w h (number.truth v)

  and_given : (l n : ℕ) (b : Ex) (k : List Frame) (t : Bool) (w : World) → Stands k w → ConfigFits (if t then Eval l n b (AsTruth ∷ k) w else Give l n (c.Truth false) k w)
  and_given l n b k true w h = under AsTruth k h tt
  and_given l n b k false w h = (h, (laws.plain w.design).truth false)

  or_given : (l n : ℕ) (b : Ex) (k : List Frame) (t : Bool) (w : World) → Stands k w → ConfigFits (if t then Give l n (c.Truth true) k w else Eval l n b (AsTruth ∷ k) w)
  or_given l n b k true w h = (h, (laws.plain w.design).truth true)
  or_given l n b k false w h = under AsTruth k h tt

  chosen : (l n : ℕ) (loop : Bool) (b : Block) (cs : Choices) (other : Block) (k : List Frame) (t : Bool) (w : World) → Stands k w → IsSource b → ChoicesParts cs → IsSource other →
      ConfigFits (if t then Exec n loop b k w else choose_turn l n loop cs other k w)
  chosen l n loop b cs other k true w h p q r = (h, p)
  chosen l n loop b cs other k false w h p q r = chooses l n loop cs other k w h q r

  turned : (n i line : ℕ) (e : Ex) (b : Block) (k : List Frame) (t : Bool) (w : World) → Stands k w → IsSource b → ConfigFits (if t then Exec n true b (Turns i line e b ∷ k) w else Ends n Goes k w)
  turned n i line e b k true w h p = (under (Turns i line e b) k h p, p)
  turned n i line e b k false w h p = (h, tt)

  gives : (l n : ℕ) (v : Const) (k : List Frame) (w : World) → Stands k w → is_of w.design v ≡ true → ConfigFits (give l n v k w)
  gives l n v [] w h g = tt
  gives l n v (Parts j es done ∷ k) w h g = next_fits l n j es (done ++ v ∷ []) _ k w (inner h) h.frames.0.0 (one_more w.design done v h.frames.0.1 g)
  gives l n v (AndRight b ∷ k) w h g = to_fits (truth l v w) _ (tells l v w h.fits) (λ t u q. and_given l n b k t u (stand k t u (inner h) q))
  gives l n v (OrRight b ∷ k) w h g = to_fits (truth l v w) _ (tells l v w h.fits) (λ t u q. or_given l n b k t u (stand k t u (inner h) q))
  gives l n v (AsTruth ∷ k) w h g = to_fits (truth l v w) _ (tells l v w h.fits) (λ t u q. (stand k t u (inner h) q, (laws.plain u.design).truth t))
  gives l n v (Collecting e t ∷ k) w h g = collects (w.left + 1) l n e t v 0 [] k w (inner h) g refl
  gives l n v (Collects i e t r j done ∷ k) w h g =
      let q = laws.pops w h.fits in
      let p = one_more w.design done v h.frames.0.1 g in
      collects i l n e t r j (done ++ v ∷ []) k (pop_inner w) (stand k tt (pop_inner w) (inner h) q) (laws.values w.design _ q.later r h.frames.0.0) (are_stay w.design _ q.later (done ++ v ∷ []) p)
  gives l n v (Drops ∷ k) w h g = (inner h, tt)
  gives l n v (Assigns t ∷ k) w h g = next_fits l n (Puts t v) _ [] _ k w (inner h) (h.frames.0, g) refl
  gives l n v (Updates op t us a ∷ k) w h g = goes_on Anything n k (update l op t us a v w) (inner h) (updates l op t us a v w h.fits h.frames.0.0 h.frames.0.1.1 g)
  gives l n v (Returning ∷ k) w h g = to_fits (returned l v w) _ (laws.returns l v w h.fits g) (λ f u q. (stand k f u (inner h) q, q.value))
  gives l n v (Chooses loop b cs other ∷ k) w h g =
      to_fits (truth l v w) _ (tells l v w h.fits) (λ t u q. chosen l n loop b cs other k t u (stand k t u (inner h) q) h.frames.0.0 h.frames.0.1.0 h.frames.0.1.1)
  gives l n v (Begins t b ∷ k) w h g = over_fits (w.left + 1) l n t v 0 b k w (inner h) g h.frames.0.0 h.frames.0.1
  gives l n v (Tests i line e b ∷ k) w h g = to_fits (truth line v w) _ (tells line v w h.fits) (λ t u q. turned n i line e b k t u (stand k t u (inner h) q) h.frames.0)
  gives l n v (Turns i line e b ∷ k) w h g = tt
  gives l n v (Goes_over i line t r j b ∷ k) w h g = tt
  gives l n v (Rest loop b ∷ k) w h g = tt
  gives l n v (Back def caller line most ∷ k) w h g = tt

  rests : (n : ℕ) (loop : Bool) (f : Flow) (b : Block) (k : List Frame) (w : World) → Stands k w → FlowFits w.design f → IsSource b → ConfigFits (rested n loop f b k w)
  rests n loop Goes b k w h g p = (h, p)
  rests n loop Leaves b k w h g p = (h, tt)
  rests n loop Again b k w h g p = (h, tt)
  rests n loop (Returns l v) b k w h g p = (h, g)

  turns_on : (n : ℕ) (f : Flow) (i line : ℕ) (e : Ex) (b : Block) (k : List Frame) (w : World) → Stands k w → FlowFits w.design f → IsSource b → ConfigFits (tested n f i line e b k w)
  turns_on n Goes i line e b k w h g p = tests_fit i line n e b k w h p
  turns_on n Again i line e b k w h g p = tests_fit i line n e b k w h p
  turns_on n Leaves i line e b k w h g p = (h, tt)
  turns_on n (Returns l v) i line e b k w h g p = (h, g)

  goes_over_on : (n : ℕ) (f : Flow) (i line : ℕ) (t : List ℕ) (v : Const) (j : ℕ) (b : Block) (k : List Frame) (w : World) → Stands k w → FlowFits w.design f → is_of w.design v ≡ true → is_name t ≡ true → IsSource b →
      ConfigFits (gone_over n f i line t v j b k w)
  goes_over_on n Goes i line t v j b k w h g q m p = over_fits i line n t v j b k w h q m p
  goes_over_on n Again i line t v j b k w h g q m p = over_fits i line n t v j b k w h q m p
  goes_over_on n Leaves i line t v j b k w h g q m p = (h, tt)
  goes_over_on n (Returns l r) i line t v j b k w h g q m p = (h, g)

  ends : (n : ℕ) (f : Flow) (k : List Frame) (w : World) → Stands k w → FlowFits w.design f → ConfigFits (ended n f k w)
  ends n f [] w h g = h.fits
  ends n f (Back def caller line most ∷ k) w h g = gives_value line most k (leave def caller f w) (inner h) (laws.leaves def caller f w h.fits g)
  ends n f (Rest loop b ∷ k) w h g = rests n loop f b k w (inner h) g h.frames.0
  ends n f (Turns i line e b ∷ k) w h g = turns_on n f i line e b k w (inner h) g h.frames.0
  ends n f (Goes_over i line t v j b ∷ k) w h g = goes_over_on n f i line t v j b k w (inner h) g h.frames.0.1.0 h.frames.0.0 h.frames.0.1.1
  ends n f (Parts j es done ∷ k) w h g = tt
  ends n f (AndRight b ∷ k) w h g = tt
  ends n f (OrRight b ∷ k) w h g = tt
  ends n f (AsTruth ∷ k) w h g = tt
  ends n f (Collecting e t ∷ k) w h g = tt
  ends n f (Collects i e t v j done ∷ k) w h g = tt
  ends n f (Drops ∷ k) w h g = tt
  ends n f (Assigns t ∷ k) w h g = tt
  ends n f (Updates op t us a ∷ k) w h g = tt
  ends n f (Returning ∷ k) w h g = tt
  ends n f (Chooses loop b cs other ∷ k) w h g = tt
  ends n f (Begins t b ∷ k) w h g = tt
  ends n f (Tests i line e b ∷ k) w h g = tt

  -- ---- a step, and a source

  pub step_fits : (x : Config) → ConfigFits x → ConfigFits (step x)
  step_fits (Eval l n e k w) h = evaluates l n e k w h
  step_fits (Give l n v k w) h = gives l n v k w h.0 h.1
  step_fits (Exec n loop b k w) h = executes n loop b k w h.0 h.1
  step_fits (Ends n f k w) h = ends n f k w h.0 h.1
  step_fits (Final r) h = h
  step_fits Stuck h = h

  comes_fits : (y x : Config) → Comes y x → ConfigFits x → ConfigFits y
  comes_fits y x (there e) h = subst ConfigFits e h
  comes_fits y x (go p) h = comes_fits y (step x) p (step_fits x h)

  if_final : (r : Result World Broken) → ConfigFits (Final r) → IfOk r Fits
  if_final (Ok w) h = h
  if_final (Err b) h = tt

  -- what a source leaves fits
  pub source_fits : (limit most : ℕ) (b : Block) → IsSource b → IfOk (executed limit most b) Fits
  source_fits limit most b h =
      if_final (executed limit most b)
      (comes_fits (Final (executed limit most b)) (Exec most false b [] (begins limit)) (starts limit most b) (record { fits = laws.begins limit; frames = tt }, h))
