-- Which locals every path that leads to a place has assigned (this project's own). A `for` with
-- constant ends is its turns in a row, and any other loop may have no turn; turns after the first
-- assign no more than the first.
use Rattle.std.specs.Prelude.{ℕ, Bool, true, false, ◌&&◌, List, [], ◌∷◌, map, Option, Some, None, slice_set}
use Rattle.mh_design.specs.declared.design.Kind.{Kind}
use Rattle.mh_exprs.specs.declared.locals.Locals.{Locals}
use Rattle.mh_exprs.specs.declared.typed.Work.{Work}

-- for each local whether it is assigned; nothing where no path leads there
abbrev pub Paths : Type 0
Paths = Option (List Bool)

abbrev pub on_both : List Bool → List Bool → List Bool
on_both (y ∷ ys) (z ∷ zs) = (y && z) ∷ on_both ys zs
on_both ys zs = []

-- paths that come together
abbrev pub meet : Paths → Paths → Paths
meet None q = q
meet (Some ys) None = Some ys
meet (Some ys) (Some zs) = Some (on_both ys zs)

abbrev pub assigned : Paths → ℕ → Paths
assigned None v = None
assigned (Some bs) v = Some (slice_set bs v true)

abbrev pub no_kind : Option Kind
no_kind = None

-- at the start of a body
abbrev pub starts : Locals → Work
starts ls = record { kinds = map (λ t. no_kind) ls.names; here = Some (map (λ t. false) ls.names); breaks = None; continues = None }

abbrev pub assigns : Work → ℕ → Work
assigns w v = record w { here = assigned w.here v }

-- a `break` and a `continue`: no path leads to what follows
abbrev pub breaks : Work → Work
breaks w = record w { breaks = meet w.breaks w.here; here = None }

abbrev pub continues : Work → Work
continues w = record w { continues = meet w.continues w.here; here = None }

abbrev pub stops : Work → Work
stops w = record w { here = None }

abbrev pub goes_on : Paths → Work → Work
goes_on p w = record w { here = p }

-- a turn of a loop begins
abbrev pub enters : Paths → Work → Work
enters p w = record w { here = p; breaks = None; continues = None }

-- a loop ends; the loop around goes on
abbrev pub leaves : Work → Paths → Work → Work
leaves outer p w = record w { here = p; breaks = outer.breaks; continues = outer.continues }

-- a turn of a `for`, by whether it has one where its ends are constants
abbrev pub turn : Option Bool → ℕ → Paths → Paths
turn (Some false) v p = None
turn has v p = assigned p v

-- after a `for`
abbrev pub turned : Option Bool → Paths → Work → Paths
turned (Some true) p w = meet (meet w.here w.continues) w.breaks
turned has p w = p
