-- Calls as they stand in a source.
use Rattle.std.specs.Prelude.{ℕ, suc, Bool, true, ◌&&◌, nat_eq, length}
use Rattle.mh_consts.specs.Expression as x
use Rattle.mh_consts.specs.Expression.{Ex, Exs, Head}

abbrev pub count : Exs → ℕ
count x.NoMore = 0
count (x.More e es) = suc (count es)

-- a call tells of each argument whether it has a name
abbrev pub head_keys_fit : Head → Exs → Bool
head_keys_fit (x.Call keys) (x.More f es) = nat_eq (length keys) (count es)
head_keys_fit h es = true

abbrev mutual
  pub keys_fit : Ex → Bool
  keys_fit (x.Number n) = true
  keys_fit (x.Str bytes) = true
  keys_fit (x.Truth b) = true
  keys_fit x.Nothing = true
  keys_fit (x.Name t) = true
  keys_fit (x.And a b) = keys_fit a && keys_fit b
  keys_fit (x.Or a b) = keys_fit a && keys_fit b
  keys_fit (x.Op h es) = head_keys_fit h es && all_keys_fit es
  keys_fit (x.Collect item t over) = keys_fit item && keys_fit over

  pub all_keys_fit : Exs → Bool
  all_keys_fit x.NoMore = true
  all_keys_fit (x.More e es) = keys_fit e && all_keys_fit es
