use Rattle.mh_consts.specs.Expression.{ex_of}
use Rattle.mh_exprs.specs.Expression.{read}
use Rattle.mh_lower_laws.proofs.ExpressionsHave.{reads}
use Rattle.mh_lower_laws.proofs.Having.{Has}
use Rattle.mh_lower_laws.proofs.SourceKeys.{source_keys}
use Rattle.mh_lower_laws.proofs.Stepping.{led_to}
use Rattle.mh_lower_laws.proofs.kinds_law.Goals as goal

pub returns : goal.returns
returns c = λ s ls w vs wide a d t e h k q.
    let l = led_to s (λ t g. Has w vs g t) d e (read s ls w wide (ex_of a) d) t (reads s ls w vs wide (ex_of a) d (source_keys a) h k) q in
    (l.extends, l.holds, l.gives.fits)
