-- The same, one small step at a time, with frames for what is left: for the proof that the program, which
-- keeps such frames, has this meaning.
use Rattle.std.specs.Prelude.{ℕ, zero, suc, ◌+◌, Bool, true, false, List, [], ◌∷◌, ◌++◌, length, Option, Some, None, Result, Ok, Err, if◌then◌else◌, slice_get, drop}
use Rattle.mh_pytree.specs.declared.expression.Operator.{Operator}
use Rattle.mh_text.specs.declared.code.Code.TheVariants.{E2NotElaborable, E7ElabLimit, E8DepthLimit, E10KindClash}
use Rattle.mh_consts.specs.declared.kinds.Const.{Const, out-Const}
use Rattle.mh_consts.specs.declared.kinds.Const.TheOpen.{Const-F}
use Rattle.mh_consts.specs.declared.kinds.Const.TheVariants as c
use Rattle.mh_consts.specs.Expression as x
use Rattle.mh_consts.specs.Expression.{Ex, Exs, Head, Keys}
use Rattle.mh_world.specs.World.{Broken}
use Rattle.mh_world.specs.declared.kinds.Mark.{Mark}
use Rattle.mh_world.specs.declared.kinds.Mark.TheVariants.{Plain, Blocked, Generates}
use Rattle.mh_world.specs.declared.kinds.Flow.{Flow}
use Rattle.mh_world.specs.declared.kinds.Flow.TheVariants.{Goes, Leaves, Again, Returns}
use Rattle.mh_world.specs.Statements as s
use Rattle.mh_world.specs.Statements.{St, Fn, Func, Block, Choice, Choices, Target, End, Then, Where, NoChoice, OrElse, line_of}
use Rattle.mh_world.specs.World.{World, counted}
use Rattle.mh_world.specs.Seen.{name}
use Rattle.mh_world.specs.Named.{bind_name, push_inner, pop_inner}
use Rattle.mh_world.specs.Lists.{new_list, item}
use Rattle.mh_world.specs.Heads.{operate, operate_in, call_builtin}
use Rattle.mh_world.specs.Functions.{Called, Caller, marked, callee, enter, returned, leave}
use Rattle.mh_elab.specs.Elaboration.{truth, importable, bind_pairs, import_names, target_parts, put, read_parts, held, update, def_parts, def_fits, define_as, leave_loop}

-- What is done once parts have their values.
pub data Job : Type 0 where
  Operates : (e : Ex) → Job  -- the operation
  Puts : (t : Target) (v : Const) → Job  -- the value gets to the target
  Reads : (op : Operator) (t : Target) (e : Ex) → Job  -- the target is read, before the right side of `t op= e`
  Defines : (m : Mark) (f : Fn) → Job  -- the function has its default values

-- What waits for a value, or for statements to end.
pub data Frame : Type 0 where
  Parts : (j : Job) (parts : Exs) (done : List Const) → Frame
  AndRight : (b : Ex) → Frame
  OrRight : (b : Ex) → Frame
  AsTruth : Frame
  Collecting : (item : Ex) (name : List ℕ) → Frame
  Collects : (n : ℕ) (item : Ex) (name : List ℕ) (v : Const) (at : ℕ) (done : List Const) → Frame
  Drops : Frame  -- an expression by itself
  Assigns : (t : Target) → Frame
  Updates : (op : Operator) (t : Target) (us : List Const) (a : Const) → Frame
  Returning : Frame
  Chooses : (loop : Bool) (b : Block) (cs : Choices) (other : Block) → Frame
  Begins : (name : List ℕ) (body : Block) → Frame  -- a `for`, with what it goes over
  Tests : (n line : ℕ) (test : Ex) (body : Block) → Frame
  Turns : (n line : ℕ) (test : Ex) (body : Block) → Frame
  Goes_over : (n line : ℕ) (name : List ℕ) (v : Const) (at : ℕ) (body : Block) → Frame
  Rest : (loop : Bool) (b : Block) → Frame
  Back : (def : ℕ) (caller : Caller) (line most : ℕ) → Frame

-- Where the machine is: l is the line of the statement, and n more calls may be opened.
pub data Config : Type 0 where
  Eval : (l n : ℕ) (e : Ex) (k : List Frame) (w : World) → Config
  Give : (l n : ℕ) (v : Const) (k : List Frame) (w : World) → Config
  Exec : (n : ℕ) (loop : Bool) (b : Block) (k : List Frame) (w : World) → Config
  Ends : (n : ℕ) (f : Flow) (k : List Frame) (w : World) → Config
  Final : Result World Broken → Config
  Stuck : Config

abbrev pub to : {A : Type 0} → Result (A × World) Broken → (A → World → Config) → Config
to (Ok x) f = f x.0 x.1
to (Err b) f = Final (Err b)

-- ---- calls

abbrev pub enter_call : ℕ → ℕ → Called → List Frame → World → Config
enter_call l zero d k w = Final (Err (E8DepthLimit, l))
enter_call l (suc n) d k w = to (enter d w) (λ caller w. Exec n false d.body (Back d.line caller l (suc n) ∷ k) w)

abbrev pub call_function : ℕ → ℕ → ℕ → Keys → List Const → List Frame → World → Config
call_function l n i keys vs k w = to (callee l i keys vs w) (λ d w. enter_call l n d k w)

abbrev pub call_value : ℕ → ℕ → Keys → List Const → Const-F Const → List Frame → World → Config
call_value l n keys vs (Const-F.Function i) k w = call_function l n i keys (drop 1 vs) k w
call_value l n keys vs (Const-F.Builtin b) k w = to (call_builtin l b keys vs w) (λ v w. Give l n v k w)
call_value l n keys vs v k w = Final (Err (E10KindClash, l))

abbrev pub call_first : ℕ → ℕ → Keys → List Const → Option Const → List Frame → World → Config
call_first l n keys vs None k w = Final (Err (E10KindClash, l))
call_first l n keys vs (Some f) k w = call_value l n keys vs (out-Const f) k w

-- ---- parts

abbrev pub operates : ℕ → ℕ → Head → List Const → List Frame → World → Config
operates l n (x.Call keys) vs k w = call_first l n keys vs (slice_get vs 0) k w
operates l n h vs k w = to (operate l h vs w) (λ v w. Give l n v k w)

abbrev pub operates_in : ℕ → ℕ → Ex → List Const → List Frame → World → Config
operates_in l n (x.Op h es) vs k w = operates l n h vs k w
operates_in l n e vs k w = to (operate_in l e vs w) (λ v w. Give l n v k w)

-- a call of what isn't an attribute
abbrev pub is_call : Ex → Bool
is_call (x.Op (x.Call keys) es) = true
is_call e = false

abbrev pub finish : ℕ → ℕ → Job → List Const → List Frame → World → Config
finish l n (Operates e) vs k w = operates_in l n e vs k w
finish l n (Puts t v) vs k w = to (put l t v vs w) (λ u w. Ends n Goes k w)
finish l n (Reads op t e) vs k w = to (held l t vs w) (λ a w. Eval l n e (Updates op t vs a ∷ k) w)
finish l n (Defines m f) vs k w = to (define_as m f vs w) (λ u w. Ends n Goes k w)

abbrev pub part : Exs → ℕ → Option Ex
part x.NoMore i = None
part (x.More e es) zero = Some e
part (x.More e es) (suc i) = part es i

abbrev pub next_part : ℕ → ℕ → Job → Exs → List Const → Option Ex → List Frame → World → Config
next_part l n j es done None k w = finish l n j done k w
next_part l n j es done (Some e) k w = Eval l n e (Parts j es done ∷ k) w

abbrev pub parts : ℕ → ℕ → Job → Exs → List Frame → World → Config
parts l n j es k w = next_part l n j es [] (part es 0) k w

-- ---- lists with `for`

abbrev pub gather_turn : Option Const → ℕ → ℕ → ℕ → Ex → List ℕ → Const → ℕ → List Const → List Frame → World → Config
gather_turn None i l n e t v at done k w = to (new_list l done w) (λ x w. Give l n x k w)
gather_turn (Some y) i l n e t v at done k w = to (counted l w) (λ u w. Eval l n e (Collects i e t v (at + 1) done ∷ k) (push_inner t y w))

abbrev pub collect_turn : ℕ → ℕ → ℕ → Ex → List ℕ → Const → ℕ → List Const → List Frame → World → Config
collect_turn zero l n e t v at done k w = Final (Err (E7ElabLimit, l))
collect_turn (suc i) l n e t v at done k w = to (item l v at w) (λ x w. gather_turn x i l n e t v at done k w)

-- ---- expressions

abbrev pub eval : ℕ → ℕ → Ex → List Frame → World → Config
eval l n (x.Number z) k w = Give l n (c.Int z) k w
eval l n (x.Str bytes) k w = Give l n (c.Str bytes) k w
eval l n (x.Truth b) k w = Give l n (c.Truth b) k w
eval l n x.Nothing k w = Give l n c.None k w
eval l n (x.Name t) k w = to (name l t w) (λ v w. Give l n v k w)
eval l n (x.And a b) k w = Eval l n a (AndRight b ∷ k) w
eval l n (x.Or a b) k w = Eval l n a (OrRight b ∷ k) w
eval l n (x.Collect e t r) k w = Eval l n r (Collecting e t ∷ k) w
eval l n (x.Op h es) k w = parts l n (Operates (x.Op h es)) es k w

-- an operation, whose parts are evaluated first
abbrev pub is_operation : Ex → Bool
is_operation (x.Op h es) = true
is_operation e = false

-- ---- loops

abbrev pub test_turn : ℕ → ℕ → ℕ → Ex → Block → List Frame → World → Config
test_turn zero l n e b k w = Final (Err (E7ElabLimit, l))
test_turn (suc i) l n e b k w = Eval l n e (Tests i l e b ∷ k) w

abbrev pub each_turn : Option Const → ℕ → ℕ → ℕ → List ℕ → Const → ℕ → Block → List Frame → World → Config
each_turn None i l n t v at b k w = Ends n Goes k w
each_turn (Some x) i l n t v at b k w = to (bind_name l t x w) (λ u w. Exec n true b (Goes_over i l t v (at + 1) b ∷ k) w)

abbrev pub over_turn : ℕ → ℕ → ℕ → List ℕ → Const → ℕ → Block → List Frame → World → Config
over_turn zero l n t v at b k w = Final (Err (E7ElabLimit, l))
over_turn (suc i) l n t v at b k w = to (item l v at w) (λ x w. each_turn x i l n t v at b k w)

-- ---- statements

abbrev pub choice_turn : ℕ → ℕ → Bool → Choice → Choices → Block → List Frame → World → Config
choice_turn l n loop (Where e b) cs other k w = Eval l n e (Chooses loop b cs other ∷ k) w

abbrev pub choose_turn : ℕ → ℕ → Bool → Choices → Block → List Frame → World → Config
choose_turn l n loop NoChoice other k w = Exec n loop other k w
choose_turn l n loop (OrElse c cs) other k w = choice_turn l n loop c cs other k w

abbrev pub define_turn : ℕ → Fn → List Frame → World → Config
define_turn n (Func l t ms ps b) k w =
    to (marked l ms w) (λ m w. to (def_fits m l ps w) (λ u w. parts l n (Defines m (Func l t ms ps b)) (def_parts m ps) k w))

abbrev pub begin : ℕ → Bool → St → List Frame → World → Config
begin n loop (s.Value l e) k w = Eval l n e (Drops ∷ k) w
begin n loop (s.Assign l t left e) k w = Eval l n e (Assigns t ∷ k) w
begin n loop (s.Augment l op t left e) k w = parts l n (Reads op t e) (read_parts t left) k w
begin n loop (s.Pass l) k w = Ends n Goes k w
begin n loop (s.Break l) k w = to (leave_loop loop l Leaves w) (λ f w. Ends n f k w)
begin n loop (s.Continue l) k w = to (leave_loop loop l Again w) (λ f w. Ends n f k w)
begin n loop (s.Return l e) k w = Eval l n e (Returning ∷ k) w
begin n loop (s.Yield l e) k w = Final (Err (E2NotElaborable, l))
begin n loop (s.Raise l e) k w = Final (Err (E2NotElaborable, l))
begin n loop (s.Assert l e) k w = Final (Err (E2NotElaborable, l))
begin n loop (s.ImportAll l) k w = to (bind_pairs l importable w) (λ u w. Ends n Goes k w)
begin n loop (s.Import l names) k w = to (import_names l names w) (λ u w. Ends n Goes k w)
begin n loop (s.Define f) k w = define_turn n f k w
begin n loop (s.If l cs other) k w = choose_turn l n loop cs other k w
begin n loop (s.While l e b) k w = test_turn (w.left + 1) l n e b k w
begin n loop (s.For l t e b) k w = Eval l n e (Begins t b ∷ k) w

abbrev pub exec : ℕ → Bool → Block → List Frame → World → Config
exec n loop End k w = Ends n Goes k w
exec n loop (Then st b) k w = to (counted (line_of st) w) (λ u w. begin n loop st (Rest loop b ∷ k) w)

-- ---- what waits for a value

abbrev pub give : ℕ → ℕ → Const → List Frame → World → Config
give l n v (Parts j es done ∷ k) w = next_part l n j es (done ++ v ∷ []) (part es (length (done ++ v ∷ []))) k w
give l n v (AndRight b ∷ k) w = to (truth l v w) (λ t w. if t then Eval l n b (AsTruth ∷ k) w else Give l n (c.Truth false) k w)
give l n v (OrRight b ∷ k) w = to (truth l v w) (λ t w. if t then Give l n (c.Truth true) k w else Eval l n b (AsTruth ∷ k) w)
give l n v (AsTruth ∷ k) w = to (truth l v w) (λ t w. Give l n (c.Truth t) k w)
give l n v (Collecting e t ∷ k) w = collect_turn (w.left + 1) l n e t v 0 [] k w
give l n v (Collects i e t r at done ∷ k) w = collect_turn i l n e t r at (done ++ v ∷ []) k (pop_inner w)
give l n v (Drops ∷ k) w = Ends n Goes k w
give l n v (Assigns t ∷ k) w = parts l n (Puts t v) (target_parts t) k w
give l n v (Updates op t us a ∷ k) w = to (update l op t us a v w) (λ u w. Ends n Goes k w)
give l n v (Returning ∷ k) w = to (returned l v w) (λ f w. Ends n f k w)
give l n v (Chooses loop b cs other ∷ k) w = to (truth l v w) (λ t w. if t then Exec n loop b k w else choose_turn l n loop cs other k w)
give l n v (Begins t b ∷ k) w = over_turn (w.left + 1) l n t v 0 b k w
give l n v (Tests i line e b ∷ k) w = to (truth line v w) (λ t w. if t then Exec n true b (Turns i line e b ∷ k) w else Ends n Goes k w)
give l n v k w = Stuck

-- ---- what waits for statements to end

abbrev pub rested : ℕ → Bool → Flow → Block → List Frame → World → Config
rested n loop Goes b k w = Exec n loop b k w
rested n loop Leaves b k w = Ends n Leaves k w
rested n loop Again b k w = Ends n Again k w
rested n loop (Returns l v) b k w = Ends n (Returns l v) k w

abbrev pub tested : ℕ → Flow → ℕ → ℕ → Ex → Block → List Frame → World → Config
tested n Goes i line e b k w = test_turn i line n e b k w
tested n Again i line e b k w = test_turn i line n e b k w
tested n Leaves i line e b k w = Ends n Goes k w
tested n (Returns l v) i line e b k w = Ends n (Returns l v) k w

abbrev pub gone_over : ℕ → Flow → ℕ → ℕ → List ℕ → Const → ℕ → Block → List Frame → World → Config
gone_over n Goes i line t v at b k w = over_turn i line n t v at b k w
gone_over n Again i line t v at b k w = over_turn i line n t v at b k w
gone_over n Leaves i line t v at b k w = Ends n Goes k w
gone_over n (Returns l r) i line t v at b k w = Ends n (Returns l r) k w

abbrev pub ended : ℕ → Flow → List Frame → World → Config
ended n f [] w = Final (Ok w)
ended n f (Back d caller line most ∷ k) w = to (leave d caller f w) (λ v w. Give line most v k w)
ended n f (Rest loop b ∷ k) w = rested n loop f b k w
ended n f (Turns i line e b ∷ k) w = tested n f i line e b k w
ended n f (Goes_over i line t v at b ∷ k) w = gone_over n f i line t v at b k w
ended n f k w = Stuck

abbrev pub step : Config → Config
step (Eval l n e k w) = eval l n e k w
step (Give l n v k w) = give l n v k w
step (Exec n loop b k w) = exec n loop b k w
step (Ends n f k w) = ended n f k w
step x = x
