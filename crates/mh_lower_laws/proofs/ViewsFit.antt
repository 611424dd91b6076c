-- The parts of an expression that statements tell apart stand in a source as it does.
use Rattle.std.proofs.Common.{◌≡◌, true}
use Rattle.std.proofs.lemmas.Bool.{and_parts}
use Rattle.mh_consts.specs.Expression as x
use Rattle.mh_consts.specs.Expression.{Ex, Exs, Head}
use Rattle.mh_lower.specs.Views.{View, view, Named, Text, Tupled, Called, Attributed, Indexed, Ranged, RangedFrom, Resized, Entire, Another}
use Rattle.mh_lower_laws.proofs.Keys.{head_keys_fit, keys_fit, all_keys_fit}

abbrev pub ViewFits : View → Type 0
ViewFits (Named t) = Unit {0}
ViewFits (Text bytes) = Unit {0}
ViewFits (Tupled xs) = all_keys_fit xs ≡ true
ViewFits (Called keys f xs) = all_keys_fit xs ≡ true
ViewFits (Attributed a name) = keys_fit a ≡ true
ViewFits (Indexed a i) = (keys_fit a ≡ true) × (keys_fit i ≡ true)
ViewFits (Ranged a i j) = (keys_fit a ≡ true) × (keys_fit i ≡ true) × (keys_fit j ≡ true)
ViewFits (RangedFrom a i) = (keys_fit a ≡ true) × (keys_fit i ≡ true)
ViewFits (Resized a n) = (keys_fit a ≡ true) × (keys_fit n ≡ true)
ViewFits (Entire a) = keys_fit a ≡ true
ViewFits Another = Unit {0}

operation_fits : (h : Head) (xs : Exs) → all_keys_fit xs ≡ true → ViewFits (view (x.Op h xs))
operation_fits x.TupleOf xs k = k
operation_fits (x.Call keys) (x.More f xs) k = (and_parts (keys_fit f) (all_keys_fit xs) k).1
operation_fits (x.Call keys) x.NoMore k = tt
operation_fits (x.Attribute name) (x.More a xs) k = (and_parts (keys_fit a) (all_keys_fit xs) k).0
operation_fits (x.Attribute name) x.NoMore k = tt
operation_fits x.Index (x.More a (x.More i xs)) k = let p = and_parts (keys_fit a) (all_keys_fit (x.More i xs)) k in (p.0, (and_parts (keys_fit i) (all_keys_fit xs) p.1).0)
operation_fits x.Index (x.More a x.NoMore) k = tt
operation_fits x.Index x.NoMore k = tt
operation_fits x.Slice (x.More a (x.More i (x.More j xs))) k =
    let p = and_parts (keys_fit a) (all_keys_fit (x.More i (x.More j xs))) k in
    let q = and_parts (keys_fit i) (all_keys_fit (x.More j xs)) p.1 in
    (p.0, q.0, (and_parts (keys_fit j) (all_keys_fit xs) q.1).0)
operation_fits x.Slice (x.More a (x.More i x.NoMore)) k = tt
operation_fits x.Slice (x.More a x.NoMore) k = tt
operation_fits x.Slice x.NoMore k = tt
operation_fits x.SliceFrom (x.More a (x.More i xs)) k = let p = and_parts (keys_fit a) (all_keys_fit (x.More i xs)) k in (p.0, (and_parts (keys_fit i) (all_keys_fit xs) p.1).0)
operation_fits x.SliceFrom (x.More a x.NoMore) k = tt
operation_fits x.SliceFrom x.NoMore k = tt
operation_fits (x.Resize maker) (x.More a (x.More n xs)) k = let p = and_parts (keys_fit a) (all_keys_fit (x.More n xs)) k in (p.0, (and_parts (keys_fit n) (all_keys_fit xs) p.1).0)
operation_fits (x.Resize maker) (x.More a x.NoMore) k = tt
operation_fits (x.Resize maker) x.NoMore k = tt
operation_fits x.Whole (x.More a xs) k = (and_parts (keys_fit a) (all_keys_fit xs) k).0
operation_fits x.Whole x.NoMore k = tt
operation_fits (x.Apply s) xs k = tt
operation_fits x.Negation xs k = tt
operation_fits (x.Both o) xs k = tt
operation_fits x.ListOf xs k = tt
operation_fits (x.Method name keys) xs k = tt

pub view_fits : (e : Ex) → keys_fit e ≡ true → ViewFits (view e)
view_fits (x.Name t) k = tt
view_fits (x.Str bytes) k = tt
view_fits (x.Op h xs) k = operation_fits h xs (and_parts (head_keys_fit h xs) (all_keys_fit xs) k).1
view_fits (x.Number n) k = tt
view_fits (x.Truth b) k = tt
view_fits x.Nothing k = tt
view_fits (x.And a b) k = tt
view_fits (x.Or a b) k = tt
view_fits (x.Collect item t over) k = tt
