-- Lists of values and limits.
use Rattle.std.proofs.Common.{ℕ, ℤ, pos, ◌≡◌, ◌+◌, ◌<◌, not, ◌||◌, List, ◌∷◌, map, drop, length, slice_index_or, Result, ap, sym, ◌∙◌, arith}
use Rattle.std.specs.Ordering.{int_eq}
use Rattle.std.proofs.lemmas.List.{drop_more, get_or-map}
use Rattle.mh_num.specs.declared.bounds.OutOfBounds.{OutOfBounds}
use Rattle.mh_design.specs.Values.{Unlimited, Waiter}
use Rattle.mh_design.specs.Assignments.{taken, part_taken, pending_is, next_set, part_set}
use Rattle.mh_design.specs.Deltas.{differ}
use Rattle.mh_signals.specs.declared.limits.Limits.{Limits}
use Rattle.mh_signals.specs.Seen.{limits_seen}

-- what differs in the rests of two lists
pub differ-drop : (xs ys : List ℤ) (k : ℕ) (x y : ℤ) → length ys ≡ length xs → k < length xs → x ≡ slice_index_or xs k x → y ≡ slice_index_or ys k y → differ (drop k xs) (drop k ys) ≡ (not (int_eq x y) || differ (drop (k + 1) xs) (drop (k + 1) ys))
differ-drop xs ys k x y e h p q =
    ap (λ us. differ us (drop k ys)) (drop_more xs k x h)
    ∙ ap (differ (slice_index_or xs k x ∷ drop (k + 1) xs)) (drop_more ys k y (omega (arith, e, h)))
    ∙ ap (λ v. not (int_eq v (slice_index_or ys k y)) || differ (drop (k + 1) xs) (drop (k + 1) ys)) (sym p)
    ∙ ap (λ v. not (int_eq x v) || differ (drop (k + 1) xs) (drop (k + 1) ys)) (sym q)

module _ (limits : List Limits) (values pending : List ℤ) (waiters : List Waiter) (n : ℕ) (l : Limits) (there : n < length limits) (is : l ≡ slice_index_or limits n l) where
  limit : slice_index_or (map limits_seen limits) n Unlimited ≡ limits_seen l
  limit = get_or-map limits_seen limits n l Unlimited there ∙ ap limits_seen (sym is)

  -- what a value that is given to a signal with these limits becomes is what becomes of the signals
  pub next_set-is : (v : ℤ) (r : Result ℤ OutOfBounds) → r ≡ taken (limits_seen l) v → next_set (record { limits = map limits_seen limits; values = values; pending = pending; waiters = waiters }) n v ≡ pending_is (record { limits = map limits_seen limits; values = values; pending = pending; waiters = waiters }) n r
  next_set-is v r e =
      ap (pending_is (record { limits = map limits_seen limits; values = values; pending = pending; waiters = waiters }) n) (ap (λ k. taken k v) limit ∙ sym e)

  pub part_set-is : (i j : ℕ) (v z : ℤ) (r : Result ℤ OutOfBounds) → z ≡ slice_index_or pending n (pos 0) → r ≡ part_taken (limits_seen l) i j z v → part_set (record { limits = map limits_seen limits; values = values; pending = pending; waiters = waiters }) n i j v ≡ pending_is (record { limits = map limits_seen limits; values = values; pending = pending; waiters = waiters }) n r
  part_set-is i j v z r f e =
      ap (pending_is (record { limits = map limits_seen limits; values = values; pending = pending; waiters = waiters }) n) (ap (λ k. part_taken k i j (slice_index_or pending n (pos 0)) v) limit ∙ ap (λ y. part_taken (limits_seen l) i j y v) (sym f) ∙ sym e)
