-- Bodies that are made statement by statement.
use Rattle.std.proofs.Common.{ℕ, ℤ, zero, suc, Bool, ◌+◌, ◌<◌, ◌≤◌, ◌≡◌, List, [], ◌∷◌, ◌++◌, map, length, drop, get_or, Result, IfOk, refl, ap, sym, subst, ◌∙◌, arith, length-append}
use Rattle.std.proofs.lemmas.List.{drop_more, drop_all}
use Rattle.mh_flow.specs.Flow as flow
use Rattle.mh_flat.specs.Body.{block_of, statement_of as flowing_step}
use Rattle.mh_design.specs.declared.statement.Branch.{Branch, out-Branch}
use Rattle.mh_design.specs.declared.expression.GExpr.{GExpr}
use Rattle.mh_design.specs.declared.statement.GStmt.{GStmt}
use Rattle.mh_design.specs.declared.statement.GStmt.TheVariants as s
use Rattle.mh_design.specs.Tree as tree
use Rattle.mh_design.specs.Tree.{statement_of, arm_of, block, arms}
use Rattle.mh_design.specs.Numbering.{statements as held_statements, block_statements, arm_statements, arms_statements}
use Rattle.mh_design.specs.Bodies as spec
use Rattle.mh_design.proofs.Shapes as shape
use Rattle.mh_gen.specs.declared.steps.Reached.{Reached}
use Rattle.mh_gen.specs.declared.steps.Made.{Made}
use Rattle.mh_gen.specs.Steps.{Steps, Puts, Makes, chain_of, chain_count}

-- one block and then another
pub followed-end : (a : spec.Flowing) → spec.followed_by a flow.End ≡ a
followed-end flow.End = refl
followed-end (flow.Then x b) = ap (flow.Then x) (followed-end b)

pub followed-followed : (a b c : spec.Flowing) → spec.followed_by (spec.followed_by a b) c ≡ spec.followed_by a (spec.followed_by b c)
followed-followed flow.End b c = refl
followed-followed (flow.Then x a) b c = ap (flow.Then x) (followed-followed a b c)

pub size-followed : (a b : spec.Flowing) → flow.block_size (spec.followed_by a b) ≡ flow.block_size a + flow.block_size b
size-followed flow.End b = omega arith
size-followed (flow.Then x a) b = let h = size-followed a b in omega (arith, h)

pub block-append : (xs ys : Steps) → block_of (xs ++ ys) ≡ spec.followed_by (block_of xs) (block_of ys)
block-append [] ys = refl
block-append (x ∷ xs) ys = ap (flow.Then (flowing_step x)) (block-append xs ys)

pub ruleset push_laws = (block-append)

pub size-only : (x : flow.Statement tree.Expression tree.LeftSide) → flow.block_size (spec.only x) ≡ flow.size x
size-only x = omega arith

pub size-while : (e : tree.Expression) (b : spec.Flowing) → flow.size (flow.WhileStatement e b) ≡ 1 + flow.block_size b
size-while e b = refl

pub size-count : (p : tree.LeftSide) (x y z : tree.Expression) (b : spec.Flowing) → flow.size (flow.CountStatement p x y z b) ≡ 1 + flow.block_size b
size-count p x y z b = refl

pub ruleset size_laws = (size-only, size-while, size-count)

pub ruleset statements = (shape.statement-set, shape.statement-if, shape.statement-while, shape.statement-for, shape.statement-break, shape.statement-continue, shape.statement-yield, shape.statement-print, shape.statement-assert, shape.statement-stop, shape.arm-branch)

-- how many statements an `if` is
pub extent-if : (l : ℕ) (rs : tree.Arms) (other : tree.Block) → spec.extent (tree.If l rs other) ≡ 1 + spec.arms_extent rs + spec.block_extent other
extent-if l rs other = let h = length-append (arms_statements rs) (block_statements other) in omega (arith, h)

-- how many statements a loop is
pub extent-while : (l : ℕ) (e : tree.Expression) (b : tree.Block) → spec.extent (tree.While l e b) ≡ 1 + spec.block_extent b
extent-while l e b = omega arith

pub extent-for : (l v : ℕ) (down : Bool) (a z : tree.Expression) (step : ℤ) (b : tree.Block) → spec.extent (tree.For l v down a z step b) ≡ 1 + spec.block_extent b
extent-for l v down a z step b = omega arith

-- statements that follow others
pub puts-none : (before : Steps) (at : Reached) → Puts before before at at flow.End 0
puts-none before at =
    record { steps = sym (followed-end (block_of before)); number = omega arith; count = omega arith }

pub puts-on : (before middle after : Steps) (at r q : Reached) (a b : spec.Flowing) (m n : ℕ) → Puts before middle at r a m → Puts middle after r q b n → Puts before after at q (spec.followed_by a b) (m + n)
puts-on before middle after at r q a b m n h k = record {
  steps = k.steps ∙ ap (λ x. spec.followed_by x b) h.steps ∙ followed-followed (block_of before) a b;
  number = let e = h.number in let f = k.number in omega (arith, e, f);
  count = let e = h.count in let f = k.count in let g = size-followed a b in omega (arith, e, f, g);
}

-- What stands before the place k of a loop over statements is made.
pub record SoFar (before now : Steps) (at r : Reached) (body : List GStmt) (k : ℕ) : Type 0 where
  pub steps : spec.followed_by (block_of now) (spec.block_flowing r.number (block (map statement_of (drop k body)))) ≡ spec.followed_by (block_of before) (spec.block_flowing at.number (block (map statement_of body)))
  pub number : r.number + spec.block_extent (block (map statement_of (drop k body))) ≡ at.number + spec.block_extent (block (map statement_of body))
  pub count : r.count + flow.block_size (spec.block_flowing r.number (block (map statement_of (drop k body)))) ≡ at.count + flow.block_size (spec.block_flowing at.number (block (map statement_of body)))

pub extent-then : (s : tree.Statement) (b : tree.Block) → spec.block_extent (tree.Then s b) ≡ spec.extent s + spec.block_extent b
extent-then s b = length-append (held_statements s) (block_statements b)

pub so_far-start : (before : Steps) (at : Reached) (body : List GStmt) → SoFar before before at at body 0
so_far-start before at body = record { steps = refl; number = refl; count = refl }

pub so_far-next : (before now after : Steps) (at r q : Reached) (body : List GStmt) (k : ℕ) (s : GStmt) → k < length body → s ≡ get_or body k s → SoFar before now at r body k → Puts now after r q (spec.flowing r.number (statement_of s)) (spec.extent (statement_of s)) → SoFar before after at q body (k + 1)
so_far-next before now after at r q body k s h i w p =
    let x = statement_of s in
    let rest = block (map statement_of (drop (k + 1) body)) in
    let e : block (map statement_of (drop k body)) ≡ tree.Then x rest =
    ap (λ ys. block (map statement_of ys)) (drop_more body k s h) ∙ ap (λ y. tree.Then (statement_of y) rest) (sym i) in
    let n = p.number in
    let f = w.number in
    let g = w.count in
    let c = p.count in
    let b = ap spec.block_extent e ∙ extent-then x rest in
    let z = ap (λ y. flow.block_size (spec.block_flowing r.number y)) e ∙ size-followed (spec.flowing r.number x) (spec.block_flowing (r.number + spec.extent x) rest) in
    let y = ap (λ m. flow.block_size (spec.block_flowing m rest)) n in
    record {
      steps = ap (λ m. spec.followed_by (block_of after) (spec.block_flowing m rest)) n
          ∙ ap (λ u. spec.followed_by u (spec.block_flowing (r.number + spec.extent x) rest)) p.steps
          ∙ followed-followed (block_of now) (spec.flowing r.number x) (spec.block_flowing (r.number + spec.extent x) rest)
          ∙ ap (λ u. spec.followed_by (block_of now) (spec.block_flowing r.number u)) (sym e)
          ∙ w.steps;
      number = omega (arith, n, f, b);
      count = omega (arith, c, g, z, y);
    }

pub so_far-ends : (before now : Steps) (at r : Reached) (body : List GStmt) (k : ℕ) → length body ≤ k → SoFar before now at r body k → Puts before now at r (spec.block_flowing at.number (block (map statement_of body))) (spec.block_extent (block (map statement_of body)))
so_far-ends before now at r body k h w =
    let e : block (map statement_of (drop k body)) ≡ tree.End = ap (λ ys. block (map statement_of ys)) (drop_all k body h) in
    let f = w.number in
    let g = w.count in
    let b : spec.block_extent (block (map statement_of (drop k body))) ≡ 0 = ap spec.block_extent e in
    let z : flow.block_size (spec.block_flowing r.number (block (map statement_of (drop k body)))) ≡ 0 = ap (λ y. flow.block_size (spec.block_flowing r.number y)) e in
    record {
      steps = sym (followed-end (block_of now)) ∙ ap (λ u. spec.followed_by (block_of now) (spec.block_flowing r.number u)) (sym e) ∙ w.steps;
      number = omega (arith, f, b);
      count = omega (arith, g, z);
    }

-- branches in a row
pub chain-append : (ms : List Made) (m : Made) (other : spec.Flowing) → chain_of (ms ++ m ∷ []) other ≡ chain_of ms (spec.only (flow.IfStatement m.test (block_of m.body.items) other))
chain-append [] m other = refl
chain-append (n ∷ ms) m other =
    ap (λ x. spec.only (flow.IfStatement n.test (block_of n.body.items) x)) (chain-append ms m other)

pub ruleset chain_laws = (chain-append)

pub count-append : (ms : List Made) (m : Made) → chain_count (ms ++ m ∷ []) ≡ chain_count ms + (1 + flow.block_size (block_of m.body.items))
count-append [] m = omega arith
count-append (n ∷ ms) m = let h = count-append ms m in omega (arith, h)

pub chain-size : (ms : List Made) (other : spec.Flowing) → flow.block_size (chain_of ms other) ≡ chain_count ms + flow.block_size other
chain-size [] other = omega arith
chain-size (m ∷ ms) other = let h = chain-size ms other in omega (arith, h)

-- What stands before the place k of a loop over branches is made.
pub record ArmsSoFar (made : List Made) (at r : Reached) (bs : List Branch) (k : ℕ) : Type 0 where
  pub chain : (other : spec.Flowing) → chain_of made (spec.arms_flowing r.number (arms (map arm_of (drop k bs))) other) ≡ spec.arms_flowing at.number (arms (map arm_of bs)) other
  pub number : r.number + spec.arms_extent (arms (map arm_of (drop k bs))) ≡ at.number + spec.arms_extent (arms (map arm_of bs))
  pub count : r.count ≡ at.count + chain_count made

pub arms-start : (at : Reached) (bs : List Branch) → ArmsSoFar [] at at bs 0
arms-start at bs = record { chain = λ other. refl; number = refl; count = omega arith }

pub arms-next : (made : List Made) (at r start q : Reached) (bs : List Branch) (k : ℕ) (b : Branch) (t : tree.Expression) (bd : tree.Block) (m : Made) → k < length bs → b ≡ get_or bs k b → arm_of b ≡ tree.ArmOf t bd → m.test ≡ t → start.number ≡ r.number → start.count ≡ r.count + 1 → Puts [] m.body.items start q (spec.block_flowing start.number bd) (spec.block_extent bd) → ArmsSoFar made at r bs k → ArmsSoFar (made ++ m ∷ []) at q bs (k + 1)
arms-next made at r start q bs k b t bd m h i a u v w p s =
    let rest = arms (map arm_of (drop (k + 1) bs)) in
    let e : arms (map arm_of (drop k bs)) ≡ tree.MoreArms (tree.ArmOf t bd) rest =
    ap (λ ys. arms (map arm_of ys)) (drop_more bs k b h) ∙ ap (λ y. tree.MoreArms (arm_of y) rest) (sym i) ∙ ap (λ y. tree.MoreArms y rest) a in
    let n = p.number in
    let c = p.count in
    let f = s.number in
    let g = s.count in
    let body : block_of m.body.items ≡ spec.block_flowing r.number bd = p.steps ∙ ap (λ y. spec.block_flowing y bd) v in
    let place : q.number ≡ r.number + spec.block_extent bd = omega (arith, n, v) in
    let x = ap spec.arms_extent e ∙ length-append (block_statements bd) (arms_statements rest) in
    let z = ap flow.block_size p.steps in
    let l = count-append made m in
    record {
      chain = λ other. chain-append made m (spec.arms_flowing q.number rest other)
          ∙ ap (λ y. chain_of made (spec.only (flow.IfStatement y (block_of m.body.items) (spec.arms_flowing q.number rest other)))) u
          ∙ ap (λ y. chain_of made (spec.only (flow.IfStatement t y (spec.arms_flowing q.number rest other)))) body
          ∙ ap (λ y. chain_of made (spec.only (flow.IfStatement t (spec.block_flowing r.number bd) (spec.arms_flowing y rest other)))) place
          ∙ ap (λ y. chain_of made (spec.arms_flowing r.number y other)) (sym e)
          ∙ s.chain other;
      number = omega (arith, place, f, x);
      count = omega (arith, w, c, g, z, l);
    }

pub arms-ends : (made : List Made) (at r : Reached) (bs : List Branch) (k : ℕ) → length bs ≤ k → ArmsSoFar made at r bs k → Makes made at r (arms (map arm_of bs))
arms-ends made at r bs k h s =
    let e : arms (map arm_of (drop k bs)) ≡ tree.NoArm = ap (λ ys. arms (map arm_of ys)) (drop_all k bs h) in
    let f = s.number in
    let x : spec.arms_extent (arms (map arm_of (drop k bs))) ≡ 0 = ap spec.arms_extent e in
    record {
      chain = λ other. ap (λ y. chain_of made (spec.arms_flowing r.number y other)) (sym e) ∙ s.chain other;
      number = omega (arith, f, x);
      count = s.count;
    }

-- an `if` is its branches and what follows where none holds
pub puts-if : (before after chain rest : Steps) (made : List Made) (at first middle end : Reached) (rs : tree.Arms) (other : tree.Block) → first.number ≡ at.number + 1 → first.count ≡ at.count → Makes made first middle rs → Puts [] rest middle end (spec.block_flowing middle.number other) (spec.block_extent other) → block_of chain ≡ chain_of made (block_of rest) → block_of after ≡ spec.followed_by (block_of before) (block_of chain) →
    Puts before after at end (spec.arms_flowing (at.number + 1) rs (spec.block_flowing (at.number + 1 + spec.arms_extent rs) other)) (1 + spec.arms_extent rs + spec.block_extent other)
puts-if before after chain rest made at first middle end rs other n c m p e f =
    let place : middle.number ≡ at.number + 1 + spec.arms_extent rs = m.number ∙ ap (λ y. y + spec.arms_extent rs) n in
    let whole : block_of chain ≡ spec.arms_flowing (at.number + 1) rs (spec.block_flowing (at.number + 1 + spec.arms_extent rs) other) =
    e ∙ ap (chain_of made) p.steps ∙ m.chain (spec.block_flowing middle.number other) ∙ ap (λ y. spec.arms_flowing y rs (spec.block_flowing middle.number other)) n ∙ ap (λ y. spec.arms_flowing (at.number + 1) rs (spec.block_flowing y other)) place in
    let u = p.number in
    let v = p.count in
    let w = m.count in
    let size = ap flow.block_size (sym whole) ∙ ap flow.block_size (e ∙ ap (chain_of made) p.steps) ∙ chain-size made (spec.block_flowing middle.number other) in
    record {
      steps = f ∙ ap (spec.followed_by (block_of before)) whole;
      number = omega (arith, u, place);
      count = omega (arith, c, v, w, size);
    }

-- a loop and its body
pub puts-loop : (before after inner : Steps) (at start end : Reached) (x : flow.Statement tree.Expression tree.LeftSide) (make : spec.Flowing → flow.Statement tree.Expression tree.LeftSide) (b : tree.Block) → ((y : spec.Flowing) → flow.size (make y) ≡ 1 + flow.block_size y) → start.number ≡ at.number + 1 → start.count ≡ at.count + 1 → Puts [] inner start end (spec.block_flowing start.number b) (spec.block_extent b) → x ≡ make (block_of inner) → block_of after ≡ spec.followed_by (block_of before) (spec.only x) → Puts before after at end (spec.only (make (spec.block_flowing (at.number + 1) b))) (1 + spec.block_extent b)
puts-loop before after inner at start end x make b s n c p e f =
    let body : block_of inner ≡ spec.block_flowing (at.number + 1) b = p.steps ∙ ap (λ y. spec.block_flowing y b) n in
    let whole = e ∙ ap make body in
    let u = p.number in
    let v = p.count in
    let z = s (spec.block_flowing (at.number + 1) b) in
    let y = size-only (make (spec.block_flowing (at.number + 1) b)) in
    let w = ap (λ m. flow.block_size (spec.block_flowing m b)) n in
    record {
      steps = f ∙ ap (λ m. spec.followed_by (block_of before) (spec.only m)) whole;
      number = omega (arith, u, n);
      count = omega (arith, v, c, z, y, w);
    }

-- the same under another name
pub ok-as : {E : Type 0} (res : Result Reached E) (before after : Steps) (at : Reached) (x y : flow.Statement tree.Expression tree.LeftSide) (n : ℕ) → x ≡ y → IfOk res (λ r. Puts before after at r (spec.only x) n) → IfOk res (λ r. Puts before after at r (spec.only y) n)
ok-as res before after at x y n e h = subst (λ z. IfOk res (λ r. Puts before after at r (spec.only z) n)) e h

pub ok-statement : {E : Type 0} (res : Result Reached E) (before after : Steps) (at : Reached) (x y : tree.Statement) → y ≡ x → IfOk res (λ r. Puts before after at r (spec.flowing at.number x) (spec.extent x)) → IfOk res (λ r. Puts before after at r (spec.flowing at.number y) (spec.extent y))
ok-statement res before after at x y e h =
    subst (λ z. IfOk res (λ r. Puts before after at r (spec.flowing at.number z) (spec.extent z))) (sym e) h

pub ok-extent : {E : Type 0} (res : Result Reached E) (before after : Steps) (at : Reached) (f : spec.Flowing) (m n : ℕ) → m ≡ n → IfOk res (λ r. Puts before after at r f m) → IfOk res (λ r. Puts before after at r f n)
ok-extent res before after at f m n e h = subst (λ k. IfOk res (λ r. Puts before after at r f k)) e h

-- what was added to nothing
pub puts-fresh : (empty now : Steps) (at r : Reached) (f : spec.Flowing) (n : ℕ) → empty ≡ [] → Puts empty now at r f n → Puts [] now at r f n
puts-fresh empty now at r f n e p = subst (λ xs. Puts xs now at r f n) e p

-- the count of statements that were added to nothing, and to others
pub fresh-count : (empty now : Steps) (at r : Reached) (f : spec.Flowing) (n : ℕ) → empty ≡ [] → at.count ≡ 0 → Puts empty now at r f n → r.count ≡ flow.block_size (block_of now)
fresh-count empty now at r f n e z p =
    let c = p.count in
    let s = ap flow.block_size p.steps in
    let k = size-followed (block_of empty) f in
    let o : flow.block_size (block_of empty) ≡ 0 = ap (λ xs. flow.block_size (block_of xs)) e in
    omega (arith, c, s, k, o, z)

pub more-count : (now after : Steps) (r q : Reached) (f : spec.Flowing) (n : ℕ) → r.count ≡ flow.block_size (block_of now) → Puts now after r q f n → q.count ≡ flow.block_size (block_of after)
more-count now after r q f n e p =
    let c = p.count in
    let s = ap flow.block_size p.steps in
    let k = size-followed (block_of now) f in
    omega (arith, c, s, k, e)

-- statements over the same lists
pub while-as : (l : ℕ) (a : GExpr) (ss ts : List GStmt) → ts ≡ ss → statement_of (s.While l a ss) ≡ tree.While l (tree.expression_of a) (block (map statement_of ts))
while-as l a ss ts e = shape.statement-while l a ss ∙ ap (λ ys. tree.While l (tree.expression_of a) (block (map statement_of ys))) (sym e)

pub for-as : (l v : ℕ) (d : Bool) (a b : GExpr) (z : ℤ) (ss ts : List GStmt) → ts ≡ ss → statement_of (s.For l v d a b z ss) ≡ tree.For l v d (tree.expression_of a) (tree.expression_of b) z (block (map statement_of ts))
for-as l v d a b z ss ts e =
    shape.statement-for l v d a b z ss ∙ ap (λ ys. tree.For l v d (tree.expression_of a) (tree.expression_of b) z (block (map statement_of ys))) (sym e)

pub if-as : (l : ℕ) (bs cs : List Branch) (ss ts : List GStmt) → cs ≡ bs → ts ≡ ss → statement_of (s.If l bs ss) ≡ tree.If l (arms (map arm_of cs)) (block (map statement_of ts))
if-as l bs cs ss ts e f =
    shape.statement-if l bs ss
    ∙ ap (λ ys. tree.If l (arms (map arm_of ys)) (block (map statement_of ss))) (sym e)
    ∙ ap (λ ys. tree.If l (arms (map arm_of cs)) (block (map statement_of ys))) (sym f)

pub arm-as : (b : Branch) (ts : List GStmt) → ts ≡ (out-Branch b).body → arm_of b ≡ tree.ArmOf (tree.expression_of (out-Branch b).test) (block (map statement_of ts))
arm-as b ts e = shape.arm-branch b ∙ ap (λ ys. tree.ArmOf (tree.expression_of (out-Branch b).test) (block (map statement_of ys))) (sym e)

-- each statement of a block is within its extent, and each block of an arm within that of the arms
extent-part : (body : List GStmt) (k : ℕ) → spec.block_extent (block (map statement_of (drop k body))) ≤ spec.block_extent (block (map statement_of body))
extent-part [] zero = omega arith
extent-part [] (suc k) = omega arith
extent-part (s ∷ ss) zero = omega arith
extent-part (s ∷ ss) (suc k) =
    let h = extent-part ss k in
    let e = extent-then (statement_of s) (block (map statement_of ss)) in
    omega (arith, h, e)

pub extent-at : (body : List GStmt) (k : ℕ) (s : GStmt) → k < length body → s ≡ get_or body k s → spec.extent (statement_of s) ≤ spec.block_extent (block (map statement_of body))
extent-at body k s h i =
    let rest = block (map statement_of (drop (k + 1) body)) in
    let e : block (map statement_of (drop k body)) ≡ tree.Then (statement_of s) rest =
    ap (λ ys. block (map statement_of ys)) (drop_more body k s h) ∙ ap (λ y. tree.Then (statement_of y) rest) (sym i) in
    let b = ap spec.block_extent e ∙ extent-then (statement_of s) rest in
    let p = extent-part body k in
    omega (arith, b, p)

arms-part : (bs : List Branch) (k : ℕ) → spec.arms_extent (arms (map arm_of (drop k bs))) ≤ spec.arms_extent (arms (map arm_of bs))
arms-part [] zero = omega arith
arms-part [] (suc k) = omega arith
arms-part (b ∷ bs) zero = omega arith
arms-part (b ∷ bs) (suc k) =
    let h = arms-part bs k in
    let e = length-append (arm_statements (arm_of b)) (arms_statements (arms (map arm_of bs))) in
    omega (arith, h, e)

pub extent-of-arm : (bs : List Branch) (k : ℕ) (b : Branch) (t : tree.Expression) (bd : tree.Block) → k < length bs → b ≡ get_or bs k b → arm_of b ≡ tree.ArmOf t bd → spec.block_extent bd ≤ spec.arms_extent (arms (map arm_of bs))
extent-of-arm bs k b t bd h i a =
    let rest = arms (map arm_of (drop (k + 1) bs)) in
    let e : arms (map arm_of (drop k bs)) ≡ tree.MoreArms (tree.ArmOf t bd) rest =
    ap (λ ys. arms (map arm_of ys)) (drop_more bs k b h) ∙ ap (λ y. tree.MoreArms (arm_of y) rest) (sym i) ∙ ap (λ y. tree.MoreArms y rest) a in
    let x = ap spec.arms_extent e ∙ length-append (block_statements bd) (arms_statements rest) in
    let p = arms-part bs k in
    omega (arith, x, p)
