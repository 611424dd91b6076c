-- What goes by cases on a number, where the number isn't 0.
use Rattle.std.proofs.Common.{◌≡◌, ℕ, ◌-◌, ◌<◌, suc, zero, false, List, [], ◌∷◌, refl, arith}
use Rattle.mh_consts.specs.declared.kinds.Const.{Const}
use Rattle.mh_consts.specs.Expression.{Ex}
use Rattle.mh_world.specs.Functions.{Called, enter}
use Rattle.mh_world.specs.Lists.{item}
use Rattle.mh_world.specs.Statements.{Block}
use Rattle.mh_world.specs.World.{World}
use Rattle.mh_elab.specs.Machine.{Frame, Back, Eval, Exec, Tests, collect_turn, each_turn, enter_call, gather_turn, over_turn, test_turn, to}

less : (n : ℕ) → suc n - 1 ≡ n
less n = omega arith

pub enter_some : (l n : ℕ) (d : Called) (k : List Frame) (w : World) → 0 < n →
    enter_call l n d k w ≡ to (enter d w) (λ caller w. Exec (n - 1) false d.body (Back d.line caller l n ∷ k) w)
enter_some l zero d k w h = absurd (omega arith)
enter_some l (suc n) d k w h = rw less refl

pub test_some : (i l n : ℕ) (e : Ex) (b : Block) (k : List Frame) (w : World) → 0 < i → test_turn i l n e b k w ≡ Eval l n e (Tests (i - 1) l e b ∷ k) w
test_some zero l n e b k w h = absurd (omega arith)
test_some (suc i) l n e b k w h = rw less refl

pub over_some : (i l n : ℕ) (t : List ℕ) (v : Const) (at : ℕ) (b : Block) (k : List Frame) (w : World) → 0 < i →
    over_turn i l n t v at b k w ≡ to (item l v at w) (λ x w. each_turn x (i - 1) l n t v at b k w)
over_some zero l n t v at b k w h = absurd (omega arith)
over_some (suc i) l n t v at b k w h = rw less refl

pub collect_some : (i l n : ℕ) (e : Ex) (t : List ℕ) (v : Const) (at : ℕ) (done : List Const) (k : List Frame) (w : World) → 0 < i →
    collect_turn i l n e t v at done k w ≡ to (item l v at w) (λ x w. gather_turn x (i - 1) l n e t v at done k w)
collect_some zero l n e t v at done k w h = absurd (omega arith)
collect_some (suc i) l n e t v at done k w h = rw less refl

pub ruleset turns = (enter_some, test_some, over_some, collect_some)
