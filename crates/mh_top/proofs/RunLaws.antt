-- How the ends of the steps of a run make the end of the run.
use Rattle.std.proofs.Common.{ℕ, List, [], ◌≡◌, Bool, true, false, Option, Some, None, IfSome, append-nil, refl, sym, subst}
use Rattle.mh_host.specs.Shelf.{Complains as ComplainsOn, Counted, Seen, Told}
use Rattle.mh_top.specs.Run.{Complained}

-- one change after another
pub told_then : (R Q P : Seen → Seen → Type 0) (x y z : Option Seen) → ((a b c : Seen) → R a b → Q b c → P a c) → Told R x y → Told Q y z → Told P x z
told_then R Q P None None None f r q = tt
told_then R Q P None None (Some z) f r q = absurd q
told_then R Q P None (Some y) z f r q = absurd r
told_then R Q P (Some x) None z f r q = absurd r
told_then R Q P (Some x) (Some y) None f r q = absurd q
told_then R Q P (Some x) (Some y) (Some z) f r q = f x y z r q

-- what a change says, said otherwise
pub told_as : (R P : Seen → Seen → Type 0) (x z : Option Seen) → ((a c : Seen) → R a c → P a c) → Told R x z → Told P x z
told_as R P None None f r = tt
told_as R P None (Some z) f r = absurd r
told_as R P (Some x) None f r = absurd r
told_as R P (Some x) (Some z) f r = f x z r

-- the same with what is known of the shelf before
pub told_with : (B : Seen → Type 0) (R P : Seen → Seen → Type 0) (x z : Option Seen) → IfSome x B → ((a c : Seen) → B a → R a c → P a c) → Told R x z → Told P x z
told_with B R P None None b f r = tt
told_with B R P None (Some z) b f r = absurd r
told_with B R P (Some x) None b f r = absurd r
told_with B R P (Some x) (Some z) b f r = f x z b r

-- nothing changes by itself
pub told_same : (P : Seen → Seen → Type 0) (x : Option Seen) → ((a : Seen) → P a a) → Told P x x
told_same P None f = tt
told_same P (Some x) f = f x

-- a complaint is the line or its front
pub complained_on : (line : List ℕ) (done : Bool) (failed : Bool) (before now : ℕ) (a c : Seen) → (done ≡ true → failed ≡ false) → (done ≡ false → failed ≡ true) → Counted failed before now → ComplainsOn done line a c → Complained line before now a c
complained_on line true failed before now a c ok err counted h =
    record {
      front = (line, ([], sym (append-nil line)), h.complained);
      whole = λ _. h.complained;
      printed = h.printed;
    }
complained_on line false failed before now a c ok err counted h =
    let rose : Counted true before now = subst (λ b. Counted b before now) (err refl) counted in
    record {
      front = h.complained;
      whole = λ quiet. absurd (quiet rose.1);
      printed = h.printed;
    }
