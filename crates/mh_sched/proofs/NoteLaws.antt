-- Lists of statements and lines that are put together piece by piece.
use Rattle.std.proofs.Common.{◌≡◌, ℕ, List, [], ◌∷◌, ◌++◌, refl, map}
use Rattle.std.proofs.lemmas.List.{append_assoc, append-nil, map-append}
use Rattle.mh_design.specs.Tree.{Arm, ArmOf, Arms, MoreArms}
use Rattle.mh_design.specs.Bodies.{arms_lines}
use Rattle.mh_sched.specs.Notes.{arm_lines}

pub arms_more : (l : ℕ) (r : Arm) (rs : Arms) → arms_lines l (MoreArms r rs) ≡ arm_lines l r ++ arms_lines l rs
arms_more l (ArmOf e b) rs = refl

pub ruleset note_laws = (append_assoc, append-nil, map-append, arms_more)
