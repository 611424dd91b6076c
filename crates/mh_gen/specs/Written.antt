-- The expressions and left sides of bodies: those of the source, and those that the kind of a generator adds.
use Rattle.std.specs.Prelude.{pos}
use Rattle.mh_design.specs.declared.expression.UnaryOp.TheVariants as unary
use Rattle.mh_design.specs.declared.expression.BinaryOp.TheVariants as binary
use Rattle.mh_design.specs.declared.statement.Binding.TheVariants as binding
use Rattle.mh_design.specs.Tree.{Expression, Integer, Truth, Signal, Operation, Unary, Binary, one, two, expression_of, LeftSide, LeftSignal, Whole, Bind, left_of}
use Rattle.mh_gen.specs.declared.written.Written.{Written}
use Rattle.mh_gen.specs.declared.written.Written.TheVariants as written
use Rattle.mh_gen.specs.declared.written.Destination.{Destination}
use Rattle.mh_gen.specs.declared.written.Destination.TheVariants as destination

abbrev pub written_seen : Written → Expression
written_seen (written.Source e) = expression_of e.now
written_seen (written.Integer z) = Integer z
written_seen (written.Truth b) = Truth b
written_seen (written.OneLess e) = Operation (Binary binary.Subtract) (two (expression_of e.now) (Integer (pos 1)))
written_seen (written.Negative z) = Operation (Unary unary.Minus) (one (Integer z))
written_seen (written.Equals n b) = Operation (Binary binary.Equal) (two (Signal n) (Truth b))

abbrev pub destination_seen : Destination → LeftSide
destination_seen (destination.Source t) = left_of t.now
destination_seen (destination.Reset n) = Whole (LeftSignal n)
destination_seen (destination.Variable n) = Bind n binding.Plain
