-- The vector that a `Bits` is.
use Rattle.mh_bits.specs.declared.values.Bits.{Bits}
use Rattle.mh_bits.specs.Vector.{Vector, vector_from}

abbrev pub vector_of : Bits → Vector
vector_of b = vector_from b.width b.val b.unk
