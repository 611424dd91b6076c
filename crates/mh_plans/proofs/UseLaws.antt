-- Lists that are put together piece by piece.
use Rattle.std.proofs.lemmas.List.{append_assoc, append-nil}
use Rattle.std.proofs.lemmas.Grind.{flat_map-append}

pub ruleset use_laws = (append_assoc, append-nil, flat_map-append)
