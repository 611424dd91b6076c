-- The machine follows the meaning.
use Rattle.std.proofs.Common.{add-one, ◌≡◌, ℕ, ◌+◌, suc, zero, Bool, true, false, List, [], ◌∷◌, ◌++◌, Option, Some, None, Ok, refl, ap, sym, ◌∙◌, length, append_assoc, slice_get, drop, if◌then◌else◌}
use Rattle.std.proofs.lemmas.List.{length_push}
use Rattle.mh_pytree.specs.declared.expression.Operator.{Operator}
use Rattle.mh_consts.specs.declared.kinds.Const.{Const, out-Const}
use Rattle.mh_consts.specs.declared.kinds.Const.TheOpen.{Const-F}
use Rattle.mh_consts.specs.declared.kinds.Const.TheVariants as c
use Rattle.mh_consts.specs.Expression as x
use Rattle.mh_consts.specs.Expression.{Ex, Exs, Head, Keys}
use Rattle.mh_world.specs.Statements as s
use Rattle.mh_world.specs.Statements.{St, Fn, Func, Block, Choice, Choices, Target, End, Then, Where, NoChoice, OrElse, line_of}
use Rattle.mh_world.specs.World.{World, Run, chain, pure, counted, begins}
use Rattle.mh_world.specs.declared.kinds.Flow.{Flow}
use Rattle.mh_world.specs.declared.kinds.Flow.TheVariants.{Goes, Leaves, Again, Returns}
use Rattle.mh_world.specs.Named.{bind_name, push_inner, pop_inner}
use Rattle.mh_world.specs.Lists.{new_list, item}
use Rattle.mh_world.specs.Functions.{marked, callee, enter, leave}
use Rattle.mh_elab.specs.Loops.{again, turn, while, each, over, gather, collect}
use Rattle.mh_elab.specs.Elaboration.{truth, importable, bind_pairs, import_names, target_parts, put, read_parts, held, update, def_parts, def_fits, define_as, call_step, apply, expr, exprs, assign, augment, define, test, stmt, block, choose, call}
use Rattle.mh_elab.specs.Machine.{Job, Operates, Puts, Reads, Defines, Frame, Parts, AndRight, OrRight, AsTruth, Collecting, Collects, Drops, Assigns, Updates, Returning, Chooses, Begins, Tests, Turns, Goes_over, Rest, Back, Config, Eval, Give, Exec, Ends, Final, to, call_function, call_first, call_value, enter_call, operates, finish, part, next_part, collect_turn, gather_turn, test_turn, over_turn, each_turn, choose_turn, define_turn, begin}
use Rattle.mh_elab.proofs.Comes.{Comes, there, go, and_then}

-- ---- what is left of the parts

abbrev from : ℕ → Exs → Exs
from zero xs = xs
from (suc i) x.NoMore = x.NoMore
from (suc i) (x.More e es) = from i es

abbrev first : Exs → Option Ex
first x.NoMore = None
first (x.More e es) = Some e

abbrev behind : Exs → Exs
behind x.NoMore = x.NoMore
behind (x.More e es) = es

part-from : (xs : Exs) (i : ℕ) → part xs i ≡ first (from i xs)
part-from x.NoMore zero = refl
part-from x.NoMore (suc i) = refl
part-from (x.More e es) zero = refl
part-from (x.More e es) (suc i) = part-from es i

from-suc : (xs : Exs) (i : ℕ) → from (suc i) xs ≡ behind (from i xs)
from-suc x.NoMore zero = refl
from-suc x.NoMore (suc i) = refl
from-suc (x.More e es) zero = refl
from-suc (x.More e es) (suc i) = from-suc es i

append_none : {A : Type 0} (xs : List A) → xs ++ [] ≡ xs
append_none [] = refl
append_none (x ∷ xs) = ap (λ ys. x ∷ ys) (append_none xs)

further : (xs : Exs) (done : List Const) (v : Const) (e : Ex) (rest : Exs) → from (length done) xs ≡ x.More e rest → from (length (done ++ v ∷ [])) xs ≡ rest
further xs done v e rest h = ap (λ i. from i xs) (length_push done v ∙ add-one (length done)) ∙ from-suc xs (length done) ∙ ap behind h

module _ (n : ℕ) (invoke : ℕ → ℕ → Keys → List Const → Run Const)
    (calls : (l i : ℕ) (keys : Keys) (vs : List Const) (k : List Frame) (w : World) →
    Comes (to (invoke l i keys vs w) (λ v w. Give l n v k w)) (call_function l n i keys vs k w)) where
  -- ---- operations

  abbrev Follows_run : ℕ → Run Const → (List Frame → World → Config) → Type 0
  Follows_run l r g = (k : List Frame) (w : World) → Comes (to (r w) (λ v w. Give l n v k w)) (g k w)

  called_value : (l : ℕ) (keys : Keys) (vs : List Const) (f : Const-F Const) → Follows_run l (call_step invoke l keys vs f) (call_value l n keys vs f)
  called_value l keys vs (Const-F.Function i) k w = calls l i keys (drop 1 vs) k w
  called_value l keys vs (Const-F.Builtin b) k w = there refl
  called_value l keys vs f k w = there refl

  called_first : (l : ℕ) (keys : Keys) (vs : List Const) (o : Option Const) → slice_get vs 0 ≡ o → Follows_run l (apply invoke l (x.Call keys) vs) (call_first l n keys vs o)
  called_first l keys vs None h k w = rw h (there refl)
  called_first l keys vs (Some f) h k w = rw h (called_value l keys vs (out-Const f) k w)

  applied : (l : ℕ) (h : Head) (vs : List Const) → Follows_run l (apply invoke l h vs) (operates l n h vs)
  applied l (x.Call keys) vs k w = called_first l keys vs (slice_get vs 0) refl k w
  applied l (x.Apply sign) vs k w = there refl
  applied l x.Negation vs k w = there refl
  applied l (x.Both op) vs k w = there refl
  applied l (x.Attribute t) vs k w = there refl
  applied l x.Index vs k w = there refl
  applied l x.Slice vs k w = there refl
  applied l x.SliceFrom vs k w = there refl
  applied l (x.Resize t) vs k w = there refl
  applied l x.Whole vs k w = there refl
  applied l x.TupleOf vs k w = there refl
  applied l x.ListOf vs k w = there refl
  applied l (x.Method t keys) vs k w = there refl

  -- ---- expressions

  abbrev Follows_expr : ℕ → Ex → Type 0
  Follows_expr l e = Follows_run l (expr invoke l e) (Eval l n e)

  and_right : (l : ℕ) (b : Ex) → Follows_expr l b → (k : List Frame) (t : Bool) (w : World) →
      Comes (to ((if t then chain (expr invoke l b) (λ u. chain (truth l u) (λ r. pure (c.Truth r))) else pure (c.Truth false)) w) (λ v w. Give l n v k w))
      (if t then Eval l n b (AsTruth ∷ k) w else Give l n (c.Truth false) k w)
  and_right l b h k true w =
      and_then (expr invoke l b w) _ _ _ (h (AsTruth ∷ k) w) (λ y v. go (and_then (truth l y v) _ _ _ (there refl) (λ u v. there refl)))
  and_right l b h k false w = there refl

  or_right : (l : ℕ) (b : Ex) → Follows_expr l b → (k : List Frame) (t : Bool) (w : World) →
      Comes (to ((if t then pure (c.Truth true) else chain (expr invoke l b) (λ u. chain (truth l u) (λ r. pure (c.Truth r)))) w) (λ v w. Give l n v k w))
      (if t then Give l n (c.Truth true) k w else Eval l n b (AsTruth ∷ k) w)
  or_right l b h k true w = there refl
  or_right l b h k false w =
      and_then (expr invoke l b w) _ _ _ (h (AsTruth ∷ k) w) (λ y v. go (and_then (truth l y v) _ _ _ (there refl) (λ u v. there refl)))

  abbrev Collected : ℕ → Ex → List ℕ → Const → ℕ → ℕ → Type 0
  Collected l e t v i at = (done : List Const) (k : List Frame) (w : World) →
      Comes (to (collect i l t v at (expr invoke l e) w) (λ vs w. to (new_list l (done ++ vs) w) (λ x w. Give l n x k w))) (collect_turn i l n e t v at done k w)

  gathers : (l : ℕ) (e : Ex) (t : List ℕ) (v : Const) → Follows_expr l e → (i at : ℕ) → Collected l e t v i (at + 1) → (x : Option Const) (done : List Const) (k : List Frame) (w : World) →
      Comes (to (gather l x t (expr invoke l e) (collect i l t v (at + 1) (expr invoke l e)) w) (λ vs w. to (new_list l (done ++ vs) w) (λ x w. Give l n x k w))) (gather_turn x i l n e t v at done k w)
  gathers l e t v p i at ih None done k w = there (ap (λ ys. to (new_list l ys w) (λ x w. Give l n x k w)) (sym (append_none done)))
  gathers l e t v p i at ih (Some y) done k w =
      and_then (counted l w) _ _ _ (there refl)
      (λ u z. let b = push_inner t y z in
      and_then (expr invoke l e b) (λ x w. chain (collect i l t v (at + 1) (expr invoke l e)) (λ zs. pure (x ∷ zs)) (pop_inner w)) (λ vs w. to (new_list l (done ++ vs) w) (λ x w. Give l n x k w))
      (λ x w. Give l n x (Collects i e t v (at + 1) done ∷ k) w) (p (Collects i e t v (at + 1) done ∷ k) b)
      (λ x q. go (and_then (collect i l t v (at + 1) (expr invoke l e) (pop_inner q)) (λ zs w. Ok (x ∷ zs, w)) (λ vs w. to (new_list l (done ++ vs) w) (λ x w. Give l n x k w))
      (λ vs w. to (new_list l ((done ++ x ∷ []) ++ vs) w) (λ x w. Give l n x k w)) (ih (done ++ x ∷ []) k (pop_inner q))
      (λ vs w. there (ap (λ ys. to (new_list l ys w) (λ x w. Give l n x k w)) (append_assoc done (x ∷ []) vs))))))

  collected : (l : ℕ) (e : Ex) (t : List ℕ) (v : Const) → Follows_expr l e → (i at : ℕ) → Collected l e t v i at
  collected l e t v p zero at done k w = there refl
  collected l e t v p (suc i) at done k w = and_then (item l v at w) _ _ _ (there refl) (λ x z. gathers l e t v p i at (collected l e t v p i (at + 1)) x done k z)

  mutual
    follows_expr : (l : ℕ) (e : Ex) → Follows_expr l e
    follows_expr l (x.Number z) k w = go (there refl)
    follows_expr l (x.Str bytes) k w = go (there refl)
    follows_expr l (x.Truth b) k w = go (there refl)
    follows_expr l x.Nothing k w = go (there refl)
    follows_expr l (x.Name t) k w = go (there refl)
    follows_expr l (x.And a b) k w =
        go (and_then (expr invoke l a w) _ _ (λ v w. Give l n v (AndRight b ∷ k) w) (follows_expr l a (AndRight b ∷ k) w)
        (λ x v. go (and_then (truth l x v) _ _ _ (there refl) (λ t u. and_right l b (follows_expr l b) k t u))))
    follows_expr l (x.Or a b) k w =
        go (and_then (expr invoke l a w) _ _ (λ v w. Give l n v (OrRight b ∷ k) w) (follows_expr l a (OrRight b ∷ k) w)
        (λ x v. go (and_then (truth l x v) _ _ _ (there refl) (λ t u. or_right l b (follows_expr l b) k t u))))
    follows_expr l (x.Collect e t r) k w =
        go (and_then (expr invoke l r w) _ _ (λ v w. Give l n v (Collecting e t ∷ k) w) (follows_expr l r (Collecting e t ∷ k) w)
        (λ v u. go (and_then (collect (u.left + 1) l t v 0 (expr invoke l e) u) _ _ _ (collected l e t v (follows_expr l e) (u.left + 1) 0 [] k u) (λ vs z. there refl))))
    follows_expr l (x.Op h es) k w =
        go (and_then (exprs invoke l es w) _ _ _ (follows_exprs l es (Operates (x.Op h es)) es [] k w refl) (λ vs v. applied l h vs k v))

    follows_exprs : (l : ℕ) (rest : Exs) (j : Job) (xs : Exs) (done : List Const) (k : List Frame) (w : World) → from (length done) xs ≡ rest →
        Comes (to (exprs invoke l rest w) (λ vs w. finish l n j (done ++ vs) k w)) (next_part l n j xs done (part xs (length done)) k w)
    follows_exprs l x.NoMore j xs done k w h =
        rw (part-from, h) (there (ap (λ vs. finish l n j vs k w) (sym (append_none done))))
    follows_exprs l (x.More e rest) j xs done k w h =
        rw (part-from, h) (and_then (expr invoke l e w) _ _ (λ v w. Give l n v (Parts j xs done ∷ k) w) (follows_expr l e (Parts j xs done ∷ k) w)
        (λ v u. go (and_then (exprs invoke l rest u) (λ vs w. Ok (v ∷ vs, w)) (λ vs w. finish l n j (done ++ vs) k w) (λ vs w. finish l n j ((done ++ v ∷ []) ++ vs) k w)
        (follows_exprs l rest j xs (done ++ v ∷ []) k u (further xs done v e rest h))
        (λ vs w. there (ap (λ ys. finish l n j ys k w) (append_assoc done (v ∷ []) vs))))))

  -- all parts of something
  follows_parts : (l : ℕ) (j : Job) (xs : Exs) (k : List Frame) (w : World) →
      Comes (to (exprs invoke l xs w) (λ vs w. finish l n j vs k w)) (next_part l n j xs [] (part xs 0) k w)
  follows_parts l j xs k w = follows_exprs l xs j xs [] k w refl

  -- ---- statements that hold no others

  abbrev Does : Run (Unit {0}) → (List Frame → World → Config) → Type 0
  Does r g = (k : List Frame) (w : World) → Comes (to (r w) (λ u w. Ends n Goes k w)) (g k w)

  assigned : (l : ℕ) (t : Target) (e : Ex) → Does (assign invoke l t e) (λ k w. Eval l n e (Assigns t ∷ k) w)
  assigned l t e k w =
      and_then (expr invoke l e w) _ _ (λ v w. Give l n v (Assigns t ∷ k) w) (follows_expr l e (Assigns t ∷ k) w)
      (λ v u. go (and_then (exprs invoke l (target_parts t) u) _ _ _ (follows_parts l (Puts t v) (target_parts t) k u) (λ us z. there refl)))

  augmented : (l : ℕ) (op : Operator) (t : Target) (left e : Ex) → Does (augment invoke l op t left e) (λ k w. next_part l n (Reads op t e) (read_parts t left) [] (part (read_parts t left) 0) k w)
  augmented l op t left e k w =
      and_then (exprs invoke l (read_parts t left) w) _ _ _ (follows_parts l (Reads op t e) (read_parts t left) k w)
      (λ us u. and_then (held l t us u) _ _ _ (there refl)
      (λ a z. and_then (expr invoke l e z) _ _ (λ v w. Give l n v (Updates op t us a ∷ k) w) (follows_expr l e (Updates op t us a ∷ k) z) (λ b y. go (there refl))))

  defined : (f : Fn) → Does (define invoke f) (define_turn n f)
  defined (Func l t ms ps b) k w =
      and_then (marked l ms w) _ _ _ (there refl)
      (λ m u. and_then (def_fits m l ps u) _ _ _ (there refl)
      (λ y z. and_then (exprs invoke l (def_parts m ps) z) _ _ _ (follows_parts l (Defines m (Func l t ms ps b)) (def_parts m ps) k z) (λ vs q. there refl)))

  tested : (l : ℕ) (e : Ex) (f : Frame) (k : List Frame) (g : Bool → World → Config) →
      ((v : Const) (w : World) → Comes (to (truth l v w) g) (Give l n v (f ∷ k) w)) → (w : World) → Comes (to (test invoke l e w) g) (Eval l n e (f ∷ k) w)
  tested l e f k g h w = and_then (expr invoke l e w) _ _ (λ v w. Give l n v (f ∷ k) w) (follows_expr l e (f ∷ k) w) h

  -- ---- statements that hold others

  abbrev Follows_flow : Run Flow → (List Frame → World → Config) → Type 0
  Follows_flow r g = (k : List Frame) (w : World) → Comes (to (r w) (λ f w. Ends n f k w)) (g k w)

  -- a statement that goes on
  goes : (r : Run (Unit {0})) (g : List Frame → World → Config) → Does r g → Follows_flow (chain r (λ u. pure Goes)) g
  goes r g h k w = and_then (r w) _ _ (λ u w. Ends n Goes k w) (h k w) (λ u z. there refl)

  abbrev Follows_block : Bool → Block → Type 0
  Follows_block loop b = Follows_flow (block invoke loop b) (Exec n loop b)

  abbrev Follows_choices : Bool → ℕ → Choices → Block → Type 0
  Follows_choices loop l cs other = Follows_flow (choose invoke loop l cs (block invoke loop other)) (choose_turn l n loop cs other)

  chosen : (loop : Bool) (l : ℕ) (b : Block) (cs : Choices) (other : Block) → Follows_block loop b → Follows_choices loop l cs other → (k : List Frame) (t : Bool) (w : World) →
      Comes (to ((if t then block invoke loop b else choose invoke loop l cs (block invoke loop other)) w) (λ f w. Ends n f k w)) (if t then Exec n loop b k w else choose_turn l n loop cs other k w)
  chosen loop l b cs other p q k true w = p k w
  chosen loop l b cs other p q k false w = q k w

  choice_follows : (loop : Bool) (l : ℕ) (e : Ex) (b : Block) (cs : Choices) (other : Block) → Follows_block loop b → Follows_choices loop l cs other →
      Follows_choices loop l (OrElse (Where e b) cs) other
  choice_follows loop l e b cs other p q k w =
      and_then (test invoke l e w) _ _ (λ t w. if t then Exec n loop b k w else choose_turn l n loop cs other k w)
      (tested l e (Chooses loop b cs other) k _ (λ v u. go (there refl)) w) (λ t u. chosen loop l b cs other p q k t u)

  abbrev Follows_while : ℕ → Ex → Block → ℕ → Type 0
  Follows_while l e b i = Follows_flow (while i l (test invoke l e) (block invoke true b)) (test_turn i l n e b)

  while_turn : (l : ℕ) (e : Ex) (b : Block) (i : ℕ) → Follows_while l e b i → (k : List Frame) (f : Flow) (w : World) →
      Comes (to (turn f (while i l (test invoke l e) (block invoke true b)) w) (λ f w. Ends n f k w)) (Ends n f (Turns i l e b ∷ k) w)
  while_turn l e b i ih k Goes w = go (ih k w)
  while_turn l e b i ih k Again w = go (ih k w)
  while_turn l e b i ih k Leaves w = go (there refl)
  while_turn l e b i ih k (Returns j v) w = go (there refl)

  while_body : (l : ℕ) (e : Ex) (b : Block) → Follows_block true b → (i : ℕ) → Follows_while l e b i → (k : List Frame) (t : Bool) (w : World) →
      Comes (to ((if t then chain (block invoke true b) (λ f. turn f (while i l (test invoke l e) (block invoke true b))) else pure Goes) w) (λ f w. Ends n f k w))
      (if t then Exec n true b (Turns i l e b ∷ k) w else Ends n Goes k w)
  while_body l e b q i ih k false w = there refl
  while_body l e b q i ih k true w =
      and_then (block invoke true b w) _ _ (λ f w. Ends n f (Turns i l e b ∷ k) w) (q (Turns i l e b ∷ k) w) (λ f u. while_turn l e b i ih k f u)

  while_turns : (l : ℕ) (e : Ex) (b : Block) → Follows_block true b → (i : ℕ) → Follows_while l e b i
  while_turns l e b q zero k w = there refl
  while_turns l e b q (suc i) k w =
      and_then (test invoke l e w) _ _ (λ t w. if t then Exec n true b (Turns i l e b ∷ k) w else Ends n Goes k w)
      (tested l e (Tests i l e b) k _ (λ v u. go (there refl)) w) (λ t u. while_body l e b q i (while_turns l e b q i) k t u)

  abbrev Follows_over : ℕ → List ℕ → Const → Block → ℕ → ℕ → Type 0
  Follows_over l t v b i at = Follows_flow (over i l t v at (block invoke true b)) (over_turn i l n t v at b)

  over_next : (l : ℕ) (t : List ℕ) (v : Const) (b : Block) (i at : ℕ) → Follows_over l t v b i at → (k : List Frame) (f : Flow) (w : World) →
      Comes (to (turn f (over i l t v at (block invoke true b)) w) (λ f w. Ends n f k w)) (Ends n f (Goes_over i l t v at b ∷ k) w)
  over_next l t v b i at ih k Goes w = go (ih k w)
  over_next l t v b i at ih k Again w = go (ih k w)
  over_next l t v b i at ih k Leaves w = go (there refl)
  over_next l t v b i at ih k (Returns j x) w = go (there refl)

  over_body : (l : ℕ) (t : List ℕ) (v : Const) (b : Block) → Follows_block true b → (i at : ℕ) → Follows_over l t v b i (at + 1) → (k : List Frame) (x : Option Const) (w : World) →
      Comes (to (each l x t (block invoke true b) (over i l t v (at + 1) (block invoke true b)) w) (λ f w. Ends n f k w)) (each_turn x i l n t v at b k w)
  over_body l t v b q i at ih k None w = there refl
  over_body l t v b q i at ih k (Some x) w =
      and_then (bind_name l t x w) _ _ _ (there refl)
      (λ u z. and_then (block invoke true b z) _ _ (λ f w. Ends n f (Goes_over i l t v (at + 1) b ∷ k) w) (q (Goes_over i l t v (at + 1) b ∷ k) z) (λ f y. over_next l t v b i (at + 1) ih k f y))

  over_turns : (l : ℕ) (t : List ℕ) (v : Const) (b : Block) → Follows_block true b → (i at : ℕ) → Follows_over l t v b i at
  over_turns l t v b q zero at k w = there refl
  over_turns l t v b q (suc i) at k w = and_then (item l v at w) _ _ _ (there refl) (λ x u. over_body l t v b q i at (over_turns l t v b q i (at + 1)) k x u)

  rest_again : (loop : Bool) (b : Block) → Follows_block loop b → (k : List Frame) (f : Flow) (w : World) →
      Comes (to (again f (block invoke loop b) w) (λ f w. Ends n f k w)) (Ends n f (Rest loop b ∷ k) w)
  rest_again loop b q k Goes w = go (q k w)
  rest_again loop b q k Again w = go (there refl)
  rest_again loop b q k Leaves w = go (there refl)
  rest_again loop b q k (Returns j x) w = go (there refl)

  mutual
    follows_stmt : (loop : Bool) (st : St) → Follows_flow (stmt invoke loop st) (begin n loop st)
    follows_stmt loop (s.Value l e) k w = and_then (expr invoke l e w) _ _ (λ v w. Give l n v (Drops ∷ k) w) (follows_expr l e (Drops ∷ k) w) (λ v u. go (there refl))
    follows_stmt loop (s.Assign l t left e) k w = goes (assign invoke l t e) _ (assigned l t e) k w
    follows_stmt loop (s.Augment l op t left e) k w = goes (augment invoke l op t left e) _ (augmented l op t left e) k w
    follows_stmt loop (s.Pass l) k w = there refl
    follows_stmt loop (s.Break l) k w = there refl
    follows_stmt loop (s.Continue l) k w = there refl
    follows_stmt loop (s.Return l e) k w = and_then (expr invoke l e w) _ _ (λ v w. Give l n v (Returning ∷ k) w) (follows_expr l e (Returning ∷ k) w) (λ v u. go (there refl))
    follows_stmt loop (s.Yield l e) k w = there refl
    follows_stmt loop (s.Raise l e) k w = there refl
    follows_stmt loop (s.Assert l e) k w = there refl
    follows_stmt loop (s.ImportAll l) k w = goes (bind_pairs l importable) _ (λ k w. there refl) k w
    follows_stmt loop (s.Import l names) k w = goes (import_names l names) _ (λ k w. there refl) k w
    follows_stmt loop (s.Define f) k w = goes (define invoke f) _ (defined f) k w
    follows_stmt loop (s.If l cs other) k w = follows_choices loop l cs other (follows_block loop other) k w
    follows_stmt loop (s.While l e b) k w = while_turns l e b (follows_block true b) (w.left + 1) k w
    follows_stmt loop (s.For l t e b) k w =
        and_then (expr invoke l e w) _ _ (λ v w. Give l n v (Begins t b ∷ k) w) (follows_expr l e (Begins t b ∷ k) w) (λ v u. go (over_turns l t v b (follows_block true b) (u.left + 1) 0 k u))

    follows_block : (loop : Bool) (b : Block) → Follows_block loop b
    follows_block loop End k w = go (there refl)
    follows_block loop (Then st b) k w =
        go (and_then (counted (line_of st) w) _ _ _ (there refl)
        (λ y u. and_then (stmt invoke loop st u) _ _ (λ f w. Ends n f (Rest loop b ∷ k) w) (follows_stmt loop st (Rest loop b ∷ k) u) (λ f z. rest_again loop b (follows_block loop b) k f z)))

    follows_choices : (loop : Bool) (l : ℕ) (cs : Choices) (other : Block) → Follows_block loop other → Follows_choices loop l cs other
    follows_choices loop l NoChoice other q k w = q k w
    follows_choices loop l (OrElse ch cs) other q k w = follows_choice loop l ch cs other (follows_choices loop l cs other q) k w

    follows_choice : (loop : Bool) (l : ℕ) (ch : Choice) (cs : Choices) (other : Block) → Follows_choices loop l cs other → Follows_choices loop l (OrElse ch cs) other
    follows_choice loop l (Where e b) cs other q k w = choice_follows loop l e b cs other (follows_block loop b) q k w

-- a call follows too, however many more may be open
calls_follow : (n l i : ℕ) (keys : Keys) (vs : List Const) (k : List Frame) (w : World) →
    Comes (to (call n l i keys vs w) (λ v w. Give l n v k w)) (call_function l n i keys vs k w)
calls_follow zero l i keys vs k w = and_then (callee l i keys vs w) _ _ _ (there refl) (λ d u. there refl)
calls_follow (suc n) l i keys vs k w =
    and_then (callee l i keys vs w) _ _ _ (there refl)
    (λ d u. and_then (enter d u) _ _ _ (there refl)
    (λ caller z. and_then (block (call n) false d.body z) _ _ _ (follows_block n (call n) (calls_follow n) false d.body (Back d.line caller l (suc n) ∷ k) z)
    (λ f y. go (there refl))))

-- so does a module
pub module_follows : (most : ℕ) (b : Block) (w : World) → Comes (to (block (call most) false b w) (λ f w. Ends most f [] w)) (Exec most false b [] w)
module_follows most b w = follows_block most (call most) (calls_follow most) false b [] w
