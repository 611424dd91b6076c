use Rattle.std.proofs.Common.{ap, ◌∙◌, pos}
use Rattle.std.proofs.lemmas.Int.{to_z-of_z}
use Rattle.std.specs.Int.{w128}
use Rattle.mh_codes.specs.Integers.{slice_of}
use Rattle.mh_codes.specs.Codes.{code}
use Rattle.mh_codes.proofs.Codes.{code_below}
use Rattle.mh_num.proofs.Words.{slice-whole, word-signed}
use Rattle.mh_num.proofs.bits.signed_of.Goals as goal

pub returns-else-low-half : goal.returns-else-low-half
returns-else-low-half c =
    let e = c.slice-low.ensures ∙ ap (λ a. pos (slice_of c.args.w 0 a)) (to_z-of_z w128 c.args.a c.ranges.a) ∙ ap pos (slice-whole c.args.w c.args.a) in
    word-signed c.args.w (code c.args.w c.args.a) c.slice-low.result c.power-half.result c.requires.some c.requires.places (code_below c.args.w c.args.a) e c.power-half.ensures c.if-low-half.false
