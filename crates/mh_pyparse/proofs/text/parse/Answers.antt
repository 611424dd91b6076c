use Rattle.std.proofs.Common.{◌≡◌, ℕ, List, Ok, Err, inl, sym, ap, ◌∙◌, subst}
use Rattle.mh_text.specs.declared.code.Code.TheVariants.{S1Syntax}
use Rattle.mh_pytok.specs.Lexeme.{Lexeme, lexemes}
use Rattle.mh_pyparse.specs.Claims.{Refuses}
use Rattle.mh_pyparse.specs.ReadingStatements.{text}
use Rattle.mh_pyparse.proofs.SoundStatements.{text_sound}
use Rattle.mh_pyparse.proofs.Refuse.{ends_once, refuses, was_refused, only_tree, not_refused}
use Rattle.mh_pyparse.proofs.Names.{are_named, text_named}
use Rattle.mh_pyparse.proofs.Inside.{readable_in}
use Rattle.mh_pyparse.proofs.text.parse.Goals as goal

pub new-cursor-requires : goal.new-cursor-requires
new-cursor-requires c = readable_in c.args.src.now c.args.tokens.now c.requires

pub returns-in-Ok-clause-found : goal.returns-in-Ok-clause-found
returns-in-Ok-clause-found c =
    text_sound 200 (lexemes c.args.src.now c.args.tokens.now) (c.in-Ok.stmts, c.in-Ok.field-0-1) c.text.new.tokens (subst (λ (ts : List Lexeme). text 200 ts ≡ Ok ((c.in-Ok.stmts, c.in-Ok.field-0-1), c.text.new.tokens)) c.new-cursor.ensures c.in-Ok.ensures)

pub returns-in-Ok-clause-only : goal.returns-in-Ok-clause-only
returns-in-Ok-clause-only c = λ body i h. inl (ap (λ b. Ok (record { stmts = b }))
    (only_tree 200 (lexemes c.args.src.now c.args.tokens.now) c.text.new.tokens (c.in-Ok.stmts, c.in-Ok.field-0-1) body (subst (λ (ts : List Lexeme). text 200 ts ≡ Ok ((c.in-Ok.stmts, c.in-Ok.field-0-1), c.text.new.tokens)) c.new-cursor.ensures c.in-Ok.ensures) i h))

pub returns-in-Err-Syntax-clause-only : goal.returns-in-Err-Syntax-clause-only
returns-in-Err-Syntax-clause-only c = λ body i h.
    let e = was_refused (text 200 c.new-cursor.result) c.in-Err-Syntax.field-0 c.text.new.tokens c.in-Err-Syntax.field-0-is c.in-Err-Syntax.ensures in
    absurd (not_refused 200 (lexemes c.args.src.now c.args.tokens.now) c.text.new.tokens body (subst (λ (ts : List Lexeme). text 200 ts ≡ Err c.text.new.tokens) c.new-cursor.ensures e) i h)

pub returns-in-Ok-clause-names : goal.returns-in-Ok-clause-names
returns-in-Ok-clause-names c =
    let f = text_sound 200 (lexemes c.args.src.now c.args.tokens.now) (c.in-Ok.stmts, c.in-Ok.field-0-1) c.text.new.tokens (subst (λ (ts : List Lexeme). text 200 ts ≡ Ok ((c.in-Ok.stmts, c.in-Ok.field-0-1), c.text.new.tokens)) c.new-cursor.ensures c.in-Ok.ensures) in
    text_named f.0 (are_named c.args.src.now c.args.tokens.now c.requires.names)

pub returns-in-Err-Syntax-clause-refused : goal.returns-in-Err-Syntax-clause-refused
returns-in-Err-Syntax-clause-refused c = λ code line names same.
    let e = was_refused (text 200 c.new-cursor.result) c.in-Err-Syntax.field-0 c.text.new.tokens c.in-Err-Syntax.field-0-is c.in-Err-Syntax.ensures in
    let s = refuses 200 (lexemes c.args.src.now c.args.tokens.now) c.text.new.tokens (ends_once c.args.src.now c.args.tokens.now c.requires.ends)
    (subst (λ (ts : List Lexeme). text 200 ts ≡ Err c.text.new.tokens) c.new-cursor.ensures e) in
    let k : code ≡ S1Syntax = cc in
    let m : names ≡ c.new.result = cc in
    let n : c.line.result ≡ line = cc in
    (k, m ∙ c.new.ensures, subst (λ (n : ℕ). Refuses 200 (lexemes c.args.src.now c.args.tokens.now) n) (sym c.line.ensures ∙ n) s)
