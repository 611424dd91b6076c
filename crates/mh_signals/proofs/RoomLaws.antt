-- The room of a generator's waits is that of the statements of its body.
use Rattle.std.proofs.Common.{ℕ, ◌≡◌, List, [], ◌∷◌, ◌++◌, map, max, length, refl, ap, sym, ◌∙◌, arith}
use Rattle.std.proofs.lemmas.List.{length-map, map-append}
use Rattle.mh_design.specs.declared.design.Design.{Design}
use Rattle.mh_design.specs.declared.design.Generator.{Generator}
use Rattle.mh_design.specs.declared.design.GenKind.{GenKind}
use Rattle.mh_design.specs.declared.design.GenKind.TheVariants as generator
use Rattle.mh_design.specs.declared.design.Wait.{Wait}
use Rattle.mh_design.specs.declared.design.Wait.TheVariants as wait
use Rattle.mh_design.specs.Bodies.{longest, waits_room}
use Rattle.mh_design.specs.Numbering.{body_of, statements, block_statements, arm_statements, arms_statements}
use Rattle.mh_design.specs.Uses.{reads, waited_by}
use Rattle.mh_design.specs.Tree.{Statement, Set, If, While, For, Break, Continue, Yield, Print, Assert, Stop, Block, End, Then, Arm, ArmOf, Arms, NoArm, MoreArms}
use Rattle.mh_design.proofs.Shapes as shape
use Rattle.mh_signals.specs.Rooms.{yield_room, block_room, arm_room, arms_room}

pub ruleset statement_shapes = (shape.statement-set, shape.statement-if, shape.statement-while, shape.statement-for, shape.statement-break, shape.statement-continue, shape.statement-yield, shape.statement-print, shape.statement-assert, shape.statement-stop, shape.arm-branch)

max-nothing : (n : ℕ) → max n 0 ≡ n
max-nothing n = omega arith

nothing-max : (n : ℕ) → max 0 n ≡ n
nothing-max n = omega arith

max-max : (a b c : ℕ) → max (max a b) c ≡ max a (max b c)
max-max a b c = omega arith

longest-join : (es fs : List (List Wait)) → longest (es ++ fs) ≡ max (longest es) (longest fs)
longest-join [] fs = omega arith
longest-join (a ∷ es) fs = ap (max (length a)) (longest-join es fs) ∙ sym (max-max (length a) (longest es) (longest fs))

waits-join : (es fs : List Statement) → longest (map waited_by (es ++ fs)) ≡ max (longest (map waited_by es)) (longest (map waited_by fs))
waits-join es fs = ap longest (map-append waited_by es fs) ∙ longest-join (map waited_by es) (map waited_by fs)

mutual
  yield-is : (s : Statement) → longest (map waited_by (statements s)) ≡ yield_room s
  yield-is (Set l t e) = refl
  yield-is (If l rs other) = nothing-max (longest (map waited_by (arms_statements rs ++ block_statements other))) ∙ waits-join (arms_statements rs) (block_statements other) ∙ ap (λ n. max n (longest (map waited_by (block_statements other)))) (arms_yield-is rs) ∙ ap (max (arms_room rs)) (block_yield-is other)
  yield-is (While l e b) = nothing-max (longest (map waited_by (block_statements b))) ∙ block_yield-is b
  yield-is (For l v down a z n b) = nothing-max (longest (map waited_by (block_statements b))) ∙ block_yield-is b
  yield-is (Break l) = refl
  yield-is (Continue l) = refl
  yield-is (Yield l ws) = max-nothing (length ws)
  yield-is (Print l ps) = refl
  yield-is (Assert l e) = refl
  yield-is (Stop l) = refl

  block_yield-is : (b : Block) → longest (map waited_by (block_statements b)) ≡ block_room b
  block_yield-is End = refl
  block_yield-is (Then s b) = waits-join (statements s) (block_statements b) ∙ ap (λ n. max n (longest (map waited_by (block_statements b)))) (yield-is s) ∙ ap (max (yield_room s)) (block_yield-is b)

  arm_yield-is : (r : Arm) → longest (map waited_by (arm_statements r)) ≡ arm_room r
  arm_yield-is (ArmOf e b) = block_yield-is b

  arms_yield-is : (rs : Arms) → longest (map waited_by (arms_statements rs)) ≡ arms_room rs
  arms_yield-is NoArm = refl
  arms_yield-is (MoreArms r rs) = waits-join (arm_statements r) (arms_statements rs) ∙ ap (λ n. max n (longest (map waited_by (arms_statements rs)))) (arm_yield-is r) ∙ ap (max (arm_room r)) (arms_yield-is rs)

pub room-comb : (d : Design) (g : Generator) (k : GenKind) → k ≡ generator.Comb → length (reads d g) ≡ waits_room d g k
room-comb d g k e = sym (length-map (reads d g) wait.Change) ∙ ap (waits_room d g) (sym e)

pub room-instance : (d : Design) (g : Generator) (k : GenKind) → k ≡ generator.Instance → block_room (body_of g) ≡ waits_room d g k
room-instance d g k e = sym (block_yield-is (body_of g)) ∙ ap (waits_room d g) (sym e)
