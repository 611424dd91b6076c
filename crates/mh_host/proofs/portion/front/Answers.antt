use Rattle.std.proofs.Common.{drop, sym}
use Rattle.std.proofs.lemmas.List.{take-append-drop}
use Rattle.mh_host.proofs.portion.front.Goals as goal

pub returns-then-taken-bytes-clause-front : goal.returns-then-taken-bytes-clause-front
returns-then-taken-bytes-clause-front c =
    (drop c.args.taken c.args.bytes.now, sym (take-append-drop c.args.taken c.args.bytes.now))
