-- Lists of what numbers name, put together piece by piece.
use Rattle.std.proofs.lemmas.List.{append_assoc, append-nil, map-append}
use Rattle.std.proofs.lemmas.Option.{slice_get-map}

pub ruleset read_laws = (slice_get-map, append_assoc, append-nil, map-append)
