-- The bodies of a well-formed design's generators fit the stores in which they run.
use Rattle.std.proofs.Common.{ℕ, zero, suc, ℤ, ◌+◌, ◌≤◌, ◌≡◌, Bool, true, false, ◌&&◌, if◌then◌else◌, List, [], ◌∷◌, ◌++◌, map, length, refl, ap, sym, subst, ◌∙◌, arith}
use Rattle.std.specs.Prelude.{Option, None, Some, nat_lt, nat_le, slice_get, option_and_then, IsTrue}
use Rattle.std.specs.Option.{option_map, option_map_or}
use Rattle.std.specs.List.{list_all, filter, range_with_len}
use Rattle.std.proofs.lemmas.Bool.{lt-ltb, ltb-true}
use Rattle.std.proofs.lemmas.List.{length-map}
use Rattle.std.proofs.lemmas.Option.{slice_get_within}
use Rattle.std.proofs.lemmas.List.Folds.{list_all-append}
use Rattle.mh_flow.specs.Flow as flow
use Rattle.mh_flat.specs.Fits.{FitsBlock, FitsItems, fits_todo}
use Rattle.mh_design.specs.declared.design.Design.{Design}
use Rattle.mh_design.specs.declared.design.EnumDecl.{EnumDecl}
use Rattle.mh_design.specs.declared.design.Generator.{Generator}
use Rattle.mh_design.specs.declared.design.GenKind.{GenKind}
use Rattle.mh_design.specs.declared.design.GenKind.TheVariants as generator
use Rattle.mh_design.specs.declared.design.Kind.{Kind}
use Rattle.mh_design.specs.declared.design.Local.{Local as Variable}
use Rattle.mh_design.specs.declared.kinds.ValueKind.{ValueKind}
use Rattle.mh_design.specs.declared.statement.Binding.TheVariants as binding
use Rattle.mh_design.specs.Assignments.{meaning, cells_are_there, operator_is_named, is_named, are_named, base_is_named, left_is_named, FitsExpression, FitsLeft}
use Rattle.mh_design.specs.Bodies as body
use Rattle.mh_design.specs.Deltas.{first_local, first_signals, first_process, store_of}
use Rattle.mh_design.specs.Enums.{is_narrow}
use Rattle.mh_design.specs.Kinds as kinds
use Rattle.mh_design.specs.Numbering.{body_of, statements, block_statements, arms_statements, generator_statements, arm_tests}
use Rattle.mh_design.specs.Statements as stated
use Rattle.mh_design.specs.Tree as tree
use Rattle.mh_design.specs.Uses.{waited_by}
use Rattle.mh_design.specs.Values.{Held, Signals, Store}
use Rattle.mh_design.specs.WellFormed as formed
use Rattle.mh_gen.specs.Running.{RunsIn, AllFit}

both : (a b : Bool) → a ≡ true → b ≡ true → (a && b) ≡ true
both true b e f = f
both false b e f = e

pub left : (a b : Bool) → (a && b) ≡ true → a ≡ true
left true b e = refl
left false b e = e

pub right : (a b : Bool) → (a && b) ≡ true → b ≡ true
right true b e = e
right false b e = absurd cc

-- what is found where a test has succeeded
some-of : {X : Type 0} (o : Option X) (f : X → Bool) → option_map_or f o false ≡ true → (x : X) × (o ≡ Some x) × (f x ≡ true)
some-of (Some x) f e = (x, refl, e)
some-of None f e = absurd cc

map-some : {X Y : Type 0} (o : Option X) (f : X → Y) (y : Y) → option_map f o ≡ Some y → (x : X) × (o ≡ Some x)
map-some (Some x) f y e = (x, refl)
map-some None f y e = absurd cc

then-some : {X Y : Type 0} (o : Option X) (f : X → Option Y) (y : Y) → option_and_then f o ≡ Some y → (x : X) × (o ≡ Some x) × (f x ≡ Some y)
then-some (Some x) f y e = (x, refl, e)
then-some None f y e = absurd cc

if-some : {X : Type 0} (b : Bool) (o : Option X) (x : X) → (if b then o else None) ≡ Some x → (b ≡ true) × (o ≡ Some x)
if-some true o x e = (refl, e)
if-some false o x e = absurd cc

pub all-get : {X : Type 0} (p : X → Bool) (xs : List X) (k : ℕ) (x : X) → list_all p xs ≡ true → slice_get xs k ≡ Some x → p x ≡ true
all-get p [] k x h e = absurd cc
all-get p (y ∷ ys) zero x h e = let i : y ≡ x = cc in subst (λ z. p z ≡ true) i (left (p y) (list_all p ys) h)
all-get p (y ∷ ys) (suc k) x h e = all-get p ys k x (right (p y) (list_all p ys) h) e

there : {X : Type 0} (xs : List X) (k : ℕ) (x : X) → slice_get xs k ≡ Some x → nat_lt k (length xs) ≡ true
there xs k x e = lt-ltb k (length xs) (slice_get_within xs k x e)

-- both parts of a list that is put together
all-left : {X : Type 0} (p : X → Bool) (xs ys : List X) → list_all p (xs ++ ys) ≡ true → list_all p xs ≡ true
all-left p xs ys h = left (list_all p xs) (list_all p ys) (sym (list_all-append p xs ys) ∙ h)

all-right : {X : Type 0} (p : X → Bool) (xs ys : List X) → list_all p (xs ++ ys) ≡ true → list_all p ys ≡ true
all-right p xs ys h = right (list_all p xs) (list_all p ys) (sym (list_all-append p xs ys) ∙ h)

-- items of enums, and elements of memories
item-in : (xs : List EnumDecl) (e i : ℕ) → list_all formed.enum_fits xs ≡ true → nat_lt i (option_map_or (λ x. length x.names) (slice_get xs e) 0) ≡ true → option_map_or (λ x. nat_lt i (length x.names) && is_narrow x.encoding (length x.names)) (slice_get xs e) false ≡ true
item-in [] e i h t = absurd (let u = ltb-true i 0 t in omega (arith, u))
item-in (x ∷ xs) zero i h t = both _ _ t (left (formed.enum_fits x) (list_all formed.enum_fits xs) h)
item-in (x ∷ xs) (suc e) i h t = item-in xs e i (right (formed.enum_fits x) (list_all formed.enum_fits xs) h) t

signal-there : (d : Design) (c : ℕ) (k : Kind) → kinds.signal_kind d c ≡ Some k → nat_lt c (length d.signals) ≡ true
signal-there d c k e = let x = map-some (slice_get d.signals c) (λ y. y.kind) k e in there d.signals c x.0 x.1

local-there : (ls : List Variable) (v : ℕ) (k : Kind) → kinds.local_kind ls v ≡ Some k → nat_lt v (length ls) ≡ true
local-there ls v k e = let x = map-some (slice_get ls v) (λ y. y.kind) k e in there ls v x.0 x.1

met-there : (d : Design) (k : Option Kind) (cs : List ℕ) (x : Kind) → formed.met_all d k cs ≡ Some x → ((y : Kind) × (k ≡ Some y)) × (list_all (λ c. nat_lt c (length d.signals)) cs ≡ true)
met-there d k [] x e = ((x, e), refl)
met-there d k (c ∷ cs) x e =
    let r = met-there d (formed.met_next d k c) cs x e in
    let s = then-some k (λ y. option_and_then (formed.met y) (kinds.signal_kind d c)) r.0.0 r.0.1 in
    let t = then-some (kinds.signal_kind d c) (formed.met s.0) r.0.0 s.2 in
    ((s.0, s.1), both _ _ (signal-there d c t.0 t.1) r.1)

kind-there : (d : Design) (cs : List ℕ) (k : Kind) → formed.cells_kind d cs ≡ Some k → list_all (λ c. nat_lt c (length d.signals)) cs ≡ true
kind-there d [] k e = refl
kind-there d (c ∷ cs) k e =
    let r = met-there d (kinds.signal_kind d c) cs k e in
    both _ _ (signal-there d c r.0.0 r.0.1) r.1

cells-there : (d : Design) (m : ℕ) (k : Kind) → list_all (formed.mem_fits d) d.mems ≡ true → kinds.mem_kind d m ≡ Some k → cells_are_there d (length d.signals) m ≡ true
cells-there d m k h e =
    let x = map-some (slice_get d.mems m) (λ y. y.kind) k e in
    let f = all-get (formed.mem_fits d) d.mems m x.0 h x.1 in
    let c = some-of (formed.cells_kind d x.0.cells) (formed.same_kind x.0.kind) (right (formed.is_name x.0.path) _ f) in
    ap (λ o. list_all (λ n. nat_lt n (length d.signals)) (option_map_or (λ y. y.cells) o [])) x.1 ∙ kind-there d x.0.cells c.0 c.1

element-kind : (d : Design) (m : ℕ) (ks : List ValueKind) (k : ValueKind) → kinds.on_one (kinds.element_kind d m) ks ≡ Some k → (x : Kind) × (kinds.mem_kind d m ≡ Some x)
element-kind d m [] k e = absurd cc
element-kind d m (a ∷ []) k e =
    map-some (kinds.mem_kind d m) kinds.read_as k (if-some (kinds.is_number a) (kinds.read_some (kinds.mem_kind d m)) k e).1
element-kind d m (a ∷ b ∷ ks) k e = absurd cc

operator-named : (d : Design) (o : tree.Operator) (ks : List ValueKind) (k : ValueKind) → list_all (formed.mem_fits d) d.mems ≡ true → kinds.operated d o ks ≡ Some k → operator_is_named d (length d.signals) o ≡ true
operator-named d (tree.ElementOf m) ks k h e = let x = element-kind d m ks k e in cells-there d m x.0 h x.1
operator-named d (tree.TableElementOf t) ks k h e = refl
operator-named d tree.BitOf ks k h e = refl
operator-named d tree.SliceOf ks k h e = refl
operator-named d (tree.Unary o) ks k h e = refl
operator-named d (tree.Binary o) ks k h e = refl
operator-named d tree.And ks k h e = refl
operator-named d tree.Or ks k h e = refl
operator-named d tree.Concat ks k h e = refl
operator-named d tree.Signed ks k h e = refl
operator-named d tree.ToInt ks k h e = refl
operator-named d tree.ToBool ks k h e = refl

module _ (d : Design) (ls : List Variable) (enums : list_all formed.enum_fits d.enums ≡ true) (mems : list_all (formed.mem_fits d) d.mems ≡ true) where
  -- What has a kind names what is there.
  mutual
    unfolding is_named are_named

    named : (e : tree.Expression) (k : ValueKind) → kinds.kind_of d ls e ≡ Some k → is_named d (length d.signals) (length ls) e ≡ true
    named (tree.Integer z) k h = refl
    named (tree.Truth b) k h = refl
    named (tree.Item e i) k h =
        item-in d.enums e i enums (if-some (nat_lt i (kinds.item_count d e)) _ k h).0
    named (tree.Fixed z b) k h = refl
    named (tree.Signal s) k h =
        let x = map-some (kinds.signal_kind d s) kinds.read_as k h in
        signal-there d s x.0 x.1
    named (tree.Local v) k h =
        let x = map-some (kinds.local_kind ls v) kinds.read_as k h in
        local-there ls v x.0 x.1
    named tree.Now k h = refl
    named (tree.Operation o xs) k h =
        let a = if-some (kinds.has_base o xs) (option_and_then (kinds.operated d o) (kinds.kinds_of d ls xs)) k h in
        let b = then-some (kinds.kinds_of d ls xs) (kinds.operated d o) k a.1 in
        both _ _ (operator-named d o b.0 k mems b.2) (all-named xs b.0 b.1)

    all-named : (xs : tree.Expressions) (ks : List ValueKind) → kinds.kinds_of d ls xs ≡ Some ks → are_named d (length d.signals) (length ls) xs ≡ true
    all-named tree.NoMore ks h = refl
    all-named (tree.More x xs) ks h =
        let a = then-some (kinds.kind_of d ls x) (λ k. option_map (λ rest. k ∷ rest) (kinds.kinds_of d ls xs)) ks h in
        let b = map-some (kinds.kinds_of d ls xs) (λ rest. a.0 ∷ rest) ks a.2 in
        both _ _ (named x a.0 a.1) (all-named xs b.0 b.1)

  numeric-named : (e : tree.Expression) → stated.is_numeric d ls e ≡ true → is_named d (length d.signals) (length ls) e ≡ true
  numeric-named e h = let x = some-of (kinds.kind_of d ls e) kinds.is_number h in named e x.0 x.1

  integer-named : (e : tree.Expression) → stated.is_integer d ls e ≡ true → is_named d (length d.signals) (length ls) e ≡ true
  integer-named e h = let x = some-of (kinds.kind_of d ls e) stated.is_integer_kind h in named e x.0 x.1

  base-named : (b : tree.LeftBase) (k : Kind) → stated.base_fits d ls b ≡ true → stated.base_kind d ls b ≡ Some k → base_is_named d (length d.signals) (length ls) b ≡ true
  base-named (tree.LeftSignal s) k f h = signal-there d s k h
  base-named (tree.LeftElement m i) k f h = both _ _ (cells-there d m k mems h) (numeric-named i f)
  base-named (tree.LeftLocal v) k f h = local-there ls v k h

  has-bits : (b : tree.LeftBase) → (stated.base_fits d ls b && stated.has_bits d ls b) ≡ true → base_is_named d (length d.signals) (length ls) b ≡ true
  has-bits b h =
      let f = left (stated.base_fits d ls b) _ h in
      let x = some-of (stated.base_kind d ls b) stated.is_bits_kind (right (stated.base_fits d ls b) _ h) in
      base-named b x.0 f x.1

  left-named : (t : tree.LeftSide) (k : ValueKind) → stated.left_takes d ls t k ≡ true → left_is_named d (length d.signals) (length ls) t ≡ true
  left-named (tree.Whole b) k h =
      let f = left (stated.base_fits d ls b && _) _ h in
      let x = some-of (stated.base_kind d ls b) (λ y. stated.takes y k) (right (stated.base_fits d ls b && _) _ h) in
      base-named b x.0 (left (stated.base_fits d ls b) _ f) x.1
  left-named (tree.LeftBit b i) k h =
      let n = right (stated.base_fits d ls b && stated.has_bits d ls b) _ h in
      both _ _ (has-bits b (left _ (stated.is_numeric d ls i && _) h)) (numeric-named i (left (stated.is_numeric d ls i) _ n))
  left-named (tree.LeftSlice b i j) k h =
      let n = left (stated.is_numeric d ls i && stated.is_numeric d ls j) _ (right (stated.base_fits d ls b && stated.has_bits d ls b) _ h) in
      both _ _ (has-bits b (left (stated.base_fits d ls b && stated.has_bits d ls b) _ h)) (both _ _ (numeric-named i (left (stated.is_numeric d ls i) _ n)) (numeric-named j (right (stated.is_numeric d ls i) _ n)))
  left-named (tree.Bind v binding.Plain) k h =
      let x = some-of (kinds.local_kind ls v) (λ y. stated.binding_takes binding.Plain y k) h in
      local-there ls v x.0 x.1
  left-named (tree.Bind v (binding.Bounded b)) k h =
      let x = some-of (kinds.local_kind ls v) (λ y. stated.binding_takes (binding.Bounded b) y k) h in
      local-there ls v x.0 x.1
  left-named (tree.Bind v (binding.LowBits n wraps)) k h =
      let x = some-of (kinds.local_kind ls v) (λ y. stated.binding_takes (binding.LowBits n wraps) y k) h in
      both _ _ (local-there ls v x.0 x.1) (right (nat_le 1 n) _ (right (stated.is_bits_kind x.0 && kinds.is_number k) _ x.2))

abbrev Here : Design → Generator → tree.Expression → Type 0
Here d g e = is_named d (length d.signals) (length g.locals) e ≡ true

-- one block and then another
followed-fits : (a b : body.Flowing) (s : Store) → FitsBlock meaning a s → FitsBlock meaning b s → FitsBlock meaning (body.followed_by a b) s
followed-fits flow.End b s h k = k
followed-fits (flow.Then x a) b s h k = (h.0, followed-fits a b s h.1 k)

-- the signals of a design that pass a test
choose : (q : ℕ → Bool) (b : Bool) (x : ℕ) (xs : List ℕ) → q x ≡ true → list_all q xs ≡ true → list_all q (if b then x ∷ xs else xs) ≡ true
choose q true x xs h k = both _ _ h k
choose q false x xs h k = k

range-there : (p : ℕ → Bool) (a n m : ℕ) → a + n ≤ m → list_all (λ c. nat_lt c m) (filter p (range_with_len a n)) ≡ true
range-there p a zero m h = refl
range-there p a (suc n) m h =
    choose (λ c. nat_lt c m) (p a) a (filter p (range_with_len (a + 1) n)) (lt-ltb a m (omega (arith, h))) (range-there p (a + 1) n m (omega (arith, h)))

module _ (d : Design) (g : Generator) (s : Store) (r : RunsIn d g s) where
  fits-here : (e : tree.Expression) → Here d g e → FitsExpression e s
  fits-here e h =
      subst (λ x. IsTrue (is_named x (length s.signals.values) (length s.locals) e)) (sym r.design) (subst (λ n. IsTrue (is_named d n (length s.locals) e)) (sym r.values) (subst (λ m. IsTrue (is_named d (length d.signals) m e)) (sym r.locals) h))

  left-here : (t : tree.LeftSide) → left_is_named d (length d.signals) (length g.locals) t ≡ true → FitsLeft t s
  left-here t h =
      (subst (λ x. IsTrue (left_is_named x (length s.signals.values) (length s.locals) t)) (sym r.design) (subst (λ n. IsTrue (left_is_named d n (length s.locals) t)) (sym r.values) (subst (λ m. IsTrue (left_is_named d (length d.signals) m t)) (sym r.locals) h)), r.even)

  end-here : (down : Bool) (e : tree.Expression) → Here d g e → FitsExpression (body.end_of down e) s
  unfolding is_named are_named
  end-here false e h = fits-here e h
  end-here true e h = fits-here (body.end_of true e) (both _ _ h refl)

  step-here : (down : Bool) (z : ℤ) → FitsExpression (body.step_of down z) s
  unfolding is_named are_named
  step-here false z = fits-here (tree.Integer z) refl
  step-here true z = fits-here (body.step_of true z) refl

  truth-here : (b : Bool) → FitsExpression (tree.Truth b) s
  unfolding is_named are_named
  truth-here b = fits-here (tree.Truth b) refl

  integer-here : (z : ℤ) → FitsExpression (tree.Integer z) s
  unfolding is_named are_named
  integer-here z = fits-here (tree.Integer z) refl

  active-here : (n : ℕ) → nat_lt n (length d.signals) ≡ true → FitsExpression (body.is_active d n) s
  unfolding is_named are_named
  active-here n h = fits-here (body.is_active d n) (both _ _ h refl)

  resets-here : (ns : List ℕ) → list_all (λ n. nat_lt n (length d.signals)) ns ≡ true → FitsBlock meaning (body.resets d ns) s
  resets-here [] h = tt
  resets-here (n ∷ ns) h =
      ((integer-here (body.initial_value d n), left-here (tree.Whole (tree.LeftSignal n)) (left (nat_lt n (length d.signals)) _ h)), resets-here ns (right (nat_lt n (length d.signals)) _ h))

  module _ (enums : list_all formed.enum_fits d.enums ≡ true) (mems : list_all (formed.mem_fits d) d.mems ≡ true) where
    numeric-here : (e : tree.Expression) → stated.is_numeric d g.locals e ≡ true → FitsExpression e s
    numeric-here e h = fits-here e (numeric-named d g.locals enums mems e h)

    abbrev fit : tree.Statement → Bool
    fit = stated.statement_fits d g.locals (formed.is_instance g.kind)

    kinds-of : (x : tree.Statement) → fit x ≡ true → stated.kinds_fit d g.locals x ≡ true
    kinds-of x h = left (stated.kinds_fit d g.locals x) _ (left (stated.kinds_fit d g.locals x && _) _ h)

    -- Statements that fit by themselves, with those that they hold, fit the store.
    mutual
      statement-here : (k : ℕ) (x : tree.Statement) → list_all fit (statements x) ≡ true → FitsBlock meaning (body.flowing k x) s
      statement-here k (tree.Set l t e) h =
          let f = kinds-of (tree.Set l t e) (left (fit (tree.Set l t e)) _ h) in
          let v = some-of (kinds.kind_of d g.locals e) (stated.left_takes d g.locals t) f in
          ((fits-here e (named d g.locals enums mems e v.0 v.1), left-here t (left-named d g.locals enums mems t v.0 v.2)), tt)
      statement-here k (tree.If l rs other) h =
          let f = kinds-of (tree.If l rs other) (left (fit (tree.If l rs other)) _ h) in
          let held = right (fit (tree.If l rs other)) _ h in
          arms-here (k + 1) rs _ f (all-left fit (arms_statements rs) (block_statements other) held) (block-here (k + 1 + body.arms_extent rs) other (all-right fit (arms_statements rs) (block_statements other) held))
      statement-here k (tree.While l e b) h =
          let f = kinds-of (tree.While l e b) (left (fit (tree.While l e b)) _ h) in
          ((numeric-here e f, block-here (k + 1) b (right (fit (tree.While l e b)) _ h)), tt)
      statement-here k (tree.For l v down a z step b) h =
          let f = kinds-of (tree.For l v down a z step b) (left (fit (tree.For l v down a z step b)) _ h) in
          let head = left (option_map_or stated.is_int_kind (kinds.local_kind g.locals v) false) _ (left (option_map_or stated.is_int_kind (kinds.local_kind g.locals v) false && _) _ f) in
          let x = some-of (kinds.local_kind g.locals v) stated.is_int_kind head in
          let ends = right (option_map_or stated.is_int_kind (kinds.local_kind g.locals v) false && _) _ f in
          ((end-here down a (numeric-named d g.locals enums mems a (left (stated.is_numeric d g.locals a) _ ends)), end-here down z (numeric-named d g.locals enums mems z (right (stated.is_numeric d g.locals a) _ ends)), step-here down step, left-here (tree.Bind v binding.Plain) (local-there g.locals v x.0 x.1), block-here (k + 1) b (right (fit (tree.For l v down a z step b)) _ h)), tt)
      statement-here k (tree.Break l) h = (tt, tt)
      statement-here k (tree.Continue l) h = (tt, tt)
      statement-here k (tree.Yield l ws) h = (tt, tt)
      statement-here k (tree.Print l ps) h = (tt, tt)
      statement-here k (tree.Assert l e) h =
          (numeric-here e (kinds-of (tree.Assert l e) (left (fit (tree.Assert l e)) _ h)), tt)
      statement-here k (tree.Stop l) h = (tt, tt)

      block-here : (k : ℕ) (b : tree.Block) → list_all fit (block_statements b) ≡ true → FitsBlock meaning (body.block_flowing k b) s
      block-here k tree.End h = tt
      block-here k (tree.Then x b) h =
          followed-fits (body.flowing k x) (body.block_flowing (k + body.extent x) b) s (statement-here k x (all-left fit (statements x) (block_statements b) h)) (block-here (k + body.extent x) b (all-right fit (statements x) (block_statements b) h))

      arms-here : (k : ℕ) (rs : tree.Arms) (o : body.Flowing) → list_all (stated.is_numeric d g.locals) (arm_tests rs) ≡ true → list_all fit (arms_statements rs) ≡ true → FitsBlock meaning o s → FitsBlock meaning (body.arms_flowing k rs o) s
      arms-here k tree.NoArm o t h w = w
      arms-here k (tree.MoreArms (tree.ArmOf e b) rs) o t h w =
          ((numeric-here e (left (stated.is_numeric d g.locals e) _ t), block-here k b (all-left fit (block_statements b) (arms_statements rs) h), arms-here (k + body.block_extent b) rs o (right (stated.is_numeric d g.locals e) _ t) (all-right fit (block_statements b) (arms_statements rs) h) w), tt)

    own-wait-here : FitsBlock meaning body.own_wait s
    own-wait-here = (tt, tt)

    ever-here : (b : body.Flowing) → FitsBlock meaning b s → FitsBlock meaning (body.for_ever b) s
    ever-here b h = ((truth-here true, h), tt)

    reset-here : (o : Option ℕ) → formed.is_reset d o ≡ true → FitsBlock meaning (body.function_of g) s → FitsBlock meaning (body.reset_or d g o) s
    reset-here None h w = w
    reset-here (Some n) h w =
        let x = some-of (slice_get d.signals n) _ h in
        ((active-here n (there d.signals n x.0 x.1), resets-here (body.driven d g) (range-there (body.is_driven d g) 0 (length d.signals) (length d.signals) (omega arith)), w), tt)

    kind-here : (k : GenKind) → formed.starts_fit d k ≡ true → FitsBlock meaning (body.function_of g) s → FitsBlock meaning (body.flowing_by d g k) s
    kind-here generator.Comb h w =
        ever-here (body.followed_by (body.function_of g) body.own_wait) (followed-fits (body.function_of g) body.own_wait s w own-wait-here)
    kind-here (generator.Always ws) h w =
        ever-here (body.followed_by body.own_wait (body.function_of g)) (followed-fits body.own_wait (body.function_of g) s own-wait-here w)
    kind-here (generator.Seq e o) h w =
        ever-here (body.followed_by body.own_wait (body.reset_or d g o)) (followed-fits body.own_wait (body.reset_or d g o) s own-wait-here (reset-here o (right (formed.is_edge e && _) _ h) w))
    kind-here generator.Instance h w = w

    whole-here : formed.starts_fit d g.kind ≡ true → formed.statements_fit d g ≡ true → FitsBlock meaning (body.generator_flow d g) s
    whole-here h f = kind-here g.kind h (block-here 0 (body_of g) f)

    -- what a print prints
    parts-here : (ps : List tree.Printed) → list_all (stated.printed_fits d g.locals) ps ≡ true → AllFit ps s
    parts-here [] h = tt
    parts-here (tree.Words t ∷ ps) h = (tt, parts-here ps h)
    parts-here (tree.Number e ∷ ps) h =
        (fits-here e (integer-named d g.locals enums mems e (left (stated.is_integer d g.locals e) _ h)), parts-here ps (right (stated.is_integer d g.locals e) _ h))

    printed-here : (x : tree.Statement) → fit x ≡ true → AllFit (body.printed_by x) s
    printed-here (tree.Set l t e) h = tt
    printed-here (tree.If l rs other) h = tt
    printed-here (tree.While l e b) h = tt
    printed-here (tree.For l v down a z step b) h = tt
    printed-here (tree.Break l) h = tt
    printed-here (tree.Continue l) h = tt
    printed-here (tree.Yield l ws) h = tt
    printed-here (tree.Print l ps) h = parts-here ps (kinds-of (tree.Print l ps) h)
    printed-here (tree.Assert l e) h = tt
    printed-here (tree.Stop l) h = tt

    found-here : (xs : List tree.Statement) (k : ℕ) → list_all fit xs ≡ true → AllFit (option_map_or body.printed_by (slice_get xs k) []) s
    found-here [] k h = tt
    found-here (x ∷ xs) zero h = printed-here x (left (fit x) _ h)
    found-here (x ∷ xs) (suc k) h = found-here xs k (right (fit x) _ h)

-- In a well-formed design what is asked above holds.
enums-fit : (d : Design) → formed.is_well_formed d ≡ true → list_all formed.enum_fits d.enums ≡ true
enums-fit d e =
    left (list_all formed.enum_fits d.enums) _ (left _ _ (right (formed.ports_fit d) (formed.declarations_fit d) (right (formed.names_fit d && formed.sizes_fit d) _ (left _ (list_all (formed.generator_fits d) d.generators) e))))

mems-fit : (d : Design) → formed.is_well_formed d ≡ true → list_all (formed.mem_fits d) d.mems ≡ true
mems-fit d e =
    left (list_all (formed.mem_fits d) d.mems) _ (right (list_all formed.enum_fits d.enums && _) _ (right (formed.ports_fit d) (formed.declarations_fit d) (right (formed.names_fit d && formed.sizes_fit d) _ (left _ (list_all (formed.generator_fits d) d.generators) e))))

generator-fits : (d : Design) (k : ℕ) (g : Generator) → formed.is_well_formed d ≡ true → slice_get d.generators k ≡ Some g → formed.generator_fits d g ≡ true
generator-fits d k g e h =
    all-get (formed.generator_fits d) d.generators k g (right _ (list_all (formed.generator_fits d) d.generators) e) h

starts-fit : (d : Design) (g : Generator) → formed.generator_fits d g ≡ true → formed.starts_fit d g.kind ≡ true
starts-fit d g h = left (formed.starts_fit d g.kind) (formed.body_fits d g) (right (formed.is_name g.path && _) _ h)

statements-fit : (d : Design) (g : Generator) → formed.generator_fits d g ≡ true → formed.statements_fit d g ≡ true
statements-fit d g h =
    right _ (formed.statements_fit d g) (left (_ && formed.statements_fit d g) _ (right (formed.starts_fit d g.kind) (formed.body_fits d g) (right (formed.is_name g.path && _) _ h)))

pub starts : (d : Design) (k : ℕ) (g : Generator) (s : Store) → formed.is_well_formed d ≡ true → slice_get d.generators k ≡ Some g → RunsIn d g s → FitsItems meaning (flow.block_items 0 (body.generator_flow d g) []) s
starts d k g s e h r =
    let f = generator-fits d k g e h in
    fits_todo meaning (body.generator_flow d g) 0 [] s (whole-here d g s r (enums-fit d e) (mems-fit d e) (starts-fit d g f) (statements-fit d g f)) tt

pub prints : (d : Design) (k : ℕ) (g : Generator) (s : Store) (n : ℕ) → formed.is_well_formed d ≡ true → slice_get d.generators k ≡ Some g → RunsIn d g s → AllFit (body.prints_at g n) s
prints d k g s n e h r =
    found-here d g s r (enums-fit d e) (mems-fit d e) (generator_statements g) n (statements-fit d g (generator-fits d k g e h))

-- There is room for what a generator waits for.
longest-at : (xs : List tree.Statement) (k : ℕ) → length (option_map_or waited_by (slice_get xs k) []) ≤ body.longest (map waited_by xs)
longest-at [] k = omega arith
longest-at (x ∷ xs) zero = omega arith
longest-at (x ∷ xs) (suc k) = let h = longest-at xs k in omega (arith, h)

pub room : (d : Design) (g : Generator) (k : ℕ) (x : GenKind) → length (body.waited_in d g x k) ≤ body.waits_room d g x
room d g k generator.Comb = omega arith
room d g k (generator.Always ws) = omega arith
room d g k (generator.Seq w o) = omega arith
room d g k generator.Instance = longest-at (generator_statements g) k

-- The stores in which bodies run at the start.
pub first : (d : Design) (g : Generator) (t : ℕ) → RunsIn d g (store_of d t (first_signals d) (first_process d g))
first d g t = record {
  design = refl;
  values = length-map d.signals _;
  locals = length-map g.locals _;
  even = (length-map d.signals _ ∙ sym (length-map d.signals _), refl);
}

-- A store that is made so at the start is one in which the body runs.
pub begins : (d : Design) (k : ℕ) (g : Generator) (s : Store) (x : Signals) (ls : List Held) (t : ℕ) → formed.is_well_formed d ≡ true → slice_get d.generators k ≡ Some g → s ≡ record { design = d; signals = x; locals = ls; time = t } → x ≡ first_signals d → ls ≡ map (first_local d) g.locals → FitsItems meaning (flow.block_items 0 (body.generator_flow d g) []) s
begins d k g s x ls t e h i a b =
    let same : s ≡ store_of d t (first_signals d) (first_process d g) =
    i ∙ ap (λ y. record { design = d; signals = y; locals = ls; time = t }) a ∙ ap (λ y. record { design = d; signals = first_signals d; locals = y; time = t }) b in
    starts d k g s e h (subst (RunsIn d g) (sym same) (first d g t))
