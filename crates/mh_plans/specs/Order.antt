-- Which generators a design has: those that its top instance leads to, depth first, in the order in
-- which blocks returned them, each once at its first place (this project's own rule).
use Rattle.std.specs.Prelude.{ℕ, zero, suc, ◌+◌, Bool, List, [], ◌∷◌, ◌++◌, length, Option, Some, None, if◌then◌else◌, nat_eq, slice_get, sum_by}
use Rattle.std.specs.List.{list_any}
use Rattle.std.specs.Option.{option_map_or}
use Rattle.mh_consts.specs.declared.kinds.Const.{Const, out-Const}
use Rattle.mh_consts.specs.declared.kinds.Const.TheOpen.{Const-F}
use Rattle.mh_consts.specs.declared.kinds.Const.TheVariants as c
use Rattle.mh_world.specs.World.{World}
use Rattle.mh_world.specs.declared.kinds.Instance.{Instance}

abbrev pub is_in : List ℕ → ℕ → Bool
is_in ns n = list_any (λ m. nat_eq n m) ns

abbrev pub with_last : List ℕ → ℕ → List ℕ
with_last ns n = if is_in ns n then ns else ns ++ n ∷ []

-- what is still to be met, the instances that were met, and the generators that were found
pub record Walk : Type 0 where
  pub ahead : List Const
  pub met : List ℕ
  pub found : List ℕ

abbrev pub parts_at : List Instance → ℕ → List Const
parts_at is i = option_map_or (λ x. x.parts) (slice_get is i) []

abbrev pub met_instance : List Instance → ℕ → List Const → Walk → Walk
met_instance is i vs k =
    if is_in k.met i then record k { ahead = vs } else record k { ahead = parts_at is i ++ vs; met = with_last k.met i }

abbrev pub visit : List Instance → Const-F Const → List Const → Walk → Walk
visit is (Const-F.Instance i) vs k = met_instance is i vs k
visit is (Const-F.Generator g) vs k = record k { ahead = vs; found = with_last k.found g }
visit is v vs k = record k { ahead = vs }

abbrev pub next : List Instance → List Const → Walk → Walk
next is [] k = k
next is (v ∷ vs) k = visit is (out-Const v) vs k

abbrev pub walk : ℕ → List Instance → Walk → Walk
walk zero is k = k
walk (suc n) is k = walk n is (next is k.ahead k)

-- each instance is gone into once, so that no more than all parts of all instances are met
abbrev pub steps : List Instance → ℕ
steps is = 1 + sum_by (λ x. length x.parts) is

-- the numbers of the generators of the instance of a number
abbrev pub generators_of : World → ℕ → List ℕ
generators_of w top = (walk (steps w.instances) w.instances (record { ahead = c.Instance top ∷ []; met = []; found = [] })).found
