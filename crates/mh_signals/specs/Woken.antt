-- What is asked of a kind, and what stands at the start.
use Rattle.std.specs.Prelude.{ℕ, ◌≤◌, [], true, length, slice_get, IfSome}
use Rattle.mh_design.specs.declared.design.Design.{Design}
use Rattle.mh_design.specs.declared.design.Kind.{Kind}
use Rattle.mh_design.specs.declared.design.Kind.TheVariants as kind
use Rattle.mh_design.specs.Enums.{encoding_width}
use Rattle.mh_design.specs.Values.{Waiter}

-- The codes of a kind's enum have at most 127 bits.
abbrev pub HasCodes : Design → Kind → Type 0
HasCodes d kind.Bool = Unit {0}
HasCodes d kind.Int = Unit {0}
HasCodes d (kind.Bits b) = Unit {0}
HasCodes d (kind.Item e) = IfSome (slice_get d.enums e) (λ x. encoding_width x.encoding (length x.names) ≤ 127)

-- One that is woken and has this room.
abbrev pub woken_with : ℕ → Waiter
woken_with r = record { room = r; waits = []; woken = true }
