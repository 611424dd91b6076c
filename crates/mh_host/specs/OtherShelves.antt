-- What the shelves that tell nothing are seen as.
use Rattle.std.specs.Prelude.{ℕ, List}
use Rattle.mh_host.specs.Shelf.{Counts}
use Rattle.mh_host.specs.declared.file.FileShelf.{FileShelf}
use Rattle.mh_host.specs.declared.never_fails.NeverFails.{NeverFails}

-- How often each call on real files and streams failed.
abbrev pub file_counts : {R O E : Type 0} → FileShelf R O E → Counts
file_counts shelf = record { fetch = shelf.fetch_faults; store = shelf.store_faults; print = shelf.print_faults; complain = shelf.complain_faults }

-- The bytes that a shelf without faults gives.
abbrev pub bytes_given : NeverFails → List ℕ
bytes_given shelf = shelf.bytes
