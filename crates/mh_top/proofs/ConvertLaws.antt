-- The ends of a conversion's steps make the ends of the command.
use Rattle.std.proofs.Common.{ℕ, List, [], ◌++◌, ◌≡◌, ◌+◌, ◌^◌, ◌<◌, ◌≤◌, true, false, eqb, length, Option, Some, None, IfSome, Result, Ok, Err, IfOk, MatchResult, inl, inr, append-nil, length-append, refl, sym, ap, subst, ◌∙◌, arith}
use Rattle.std.proofs.lemmas.Bool.{eqb-false}
use Rattle.std.specs.declared.alloc.Global.{Global}
use Rattle.std.specs.declared.vec.Vec.{Vec}
use Rattle.mh_host.specs.Shelf.{Counted, Counts, Finds, HeldAfter, IsFront, IsPortion, Rose, Seen, Stores, Told}
use Rattle.mh_host.specs.declared.shelf.Fetched.TheVariants.{Whole, TooLong}
use Rattle.mh_text.specs.declared.code.Code.{Code}
use Rattle.mh_text.specs.declared.memory.Memory.{Memory}
use Rattle.mh_top.proofs.RunLaws.{told_as, told_then, told_with}
use Rattle.mh_top.proofs.WordLaws.{not_sim, same_file, same_out}
use Rattle.mh_top.specs.Commands.{Completes, Ends}
use Rattle.mh_top.specs.Convert.{ConvertEnds, done, refused, unfetched, unstored, no_memory, too_long, ConvertCompletes, HasConverted, HasFoundTooLong, HasRefused, HasStoredInPart, StatusFits}
use Rattle.mh_top.specs.Emission.{module_of}
use Rattle.mh_top.specs.Lines.{memory_line, refusal_line, shelf_line, too_long_line}
use Rattle.mh_top.specs.Source.{IsRefusedFor, SpellsNone}
use Rattle.mh_top.specs.Run.{Complained, Complains, HasFailedFetch, IsFaultFree, OnlyComplains, Run, SameNames}
use Rattle.mh_top.specs.Steps.{EndsSource, IsTextOf, SourceEnds, StoresText}
use Rattle.mh_top.specs.Steps as step
use Rattle.mh_top.specs.VerilogText.{text}
use Rattle.mh_top.specs.Words.{Command, Convert, Sim, Gives, IsConvert}
use Rattle.mh_top.specs.declared.status.TheConstants.Status.{DONE, REFUSED, WORDS, SHELF, MEMORY, TOO_LONG}

abbrev run_of : Option Seen → Option Seen → Counts → Counts → Run
run_of x z c d = record { before = x; after = z; faults_before = c; faults_after = d }

-- a complaint after a step that complained of nothing
complained_after : (line said : List ℕ) (n m k : ℕ) (a b c : Seen) → b.complained ≡ a.complained → b.printed ≡ a.printed → m ≡ n → said ≡ line → Complained said m k b c → Complained line n k a c
complained_after line said n m k a b c quiet unprinted same is h =
    record {
      front = (h.front.0, subst (IsFront h.front.0) is h.front.1, h.front.2 ∙ ap (λ (text : List ℕ). text ++ h.front.0) quiet);
      whole = λ fine. h.whole (subst (λ from. Rose from k → ⊥) (sym same) fine) ∙ ap (λ (text : List ℕ). b.complained ++ text) is ∙ ap (λ (text : List ℕ). text ++ line) quiet;
      printed = h.printed ∙ unprinted;
    }

-- the text is stored
pub source_done : (source out bytes : List ℕ) (x z : Option Seen) (c d : Counts) → IsTextOf source bytes → Told (Stores true out bytes) x z → d.store ≡ c.store → d ≡ record c { store = d.store } → EndsSource source out (run_of x z c d) DONE
source_done source out bytes x z c d is told counted others = (
  [],
  step.done refl refl (record { fetch = ap (λ (k : Counts). k.fetch) others; store = counted; print = ap (λ (k : Counts). k.print) others }) is.design is.spelled
      (told_as (Stores true out bytes) (StoresText true source out) x z
      (λ a b s. record { design = is.design; spelled = is.spelled; values = is.values; stored = s.held ∙ ap Some is.is_text; others = s.others }) told),
  told_as (Stores true out bytes) (Complained [] c.complain d.complain) x z
      (λ a b s. record { front = ([], ([], refl), s.complained ∙ sym (append-nil a.complained)); whole = λ fine. s.complained ∙ sym (append-nil a.complained); printed = s.printed }) told,
)

held_on : (bytes wanted : List ℕ) (old mid new : Option (List ℕ)) → bytes ≡ wanted → new ≡ mid → HeldAfter false bytes old mid → HeldAfter false wanted old new
held_on bytes wanted old mid new is same (inl kept) = inl (same ∙ kept)
held_on bytes wanted old mid new is same (inr part) = inr (part.0, subst (IsFront part.0) is part.1, same ∙ part.2)

-- the text is not stored
pub source_unstored : (source out bytes fault : List ℕ) (x y z : Option Seen) (c d e : Counts) (status : ℕ) → IsTextOf source bytes → fault ≡ shelf_line out → Told (Stores false out bytes) x y → Counted true c.store d.store → d ≡ record c { store = d.store } → status ≡ SHELF → OnlyComplains fault (run_of y z d e) → EndsSource source out (run_of x z c e) status
source_unstored source out bytes fault x y z c d e status is line told counted others code said =
    let complain : d.complain ≡ c.complain = ap (λ (k : Counts). k.complain) others in (
      shelf_line out,
      step.unstored code refl
          (record {
            fetch = said.faults.fetch ∙ ap (λ (k : Counts). k.fetch) others;
            store = subst (Rose c.store) (sym said.faults.store) counted.1;
            print = said.faults.print ∙ ap (λ (k : Counts). k.print) others;
          })
          (told_then (Stores false out bytes) SameNames (StoresText false source out) x y z
          (λ a b f s same. record {
            design = is.design;
            spelled = is.spelled;
            values = is.values;
            stored = held_on bytes (text (module_of is.design)) (a.holds out) (b.holds out) (f.holds out) is.is_text (same out) s.held;
            others = λ other differs. same other ∙ s.others other differs;
          }) told said.names),
      told_then (Stores false out bytes) (Complained fault d.complain e.complain) (Complained (shelf_line out) c.complain e.complain) x y z
          (λ a b f s h. complained_after (shelf_line out) fault c.complain d.complain e.complain a b f s.complained s.printed complain line h) told said.complaint,
    )

-- what the file holds, as the fetch found it
abbrev Holding : List ℕ → List ℕ → Seen → Type 0
Holding file bytes s = (held : List ℕ) × (s.holds file ≡ Some held) × IsPortion Whole held (2 ^ 20) bytes

-- the ends of a source that was fetched are ends of the command
module _ (file out source : List ℕ) (run : Run) (status : ℕ) (line : List ℕ) (holding : IfSome run.before (Holding file source)) (within : length source ≤ 2 ^ 20) where
  lifted : SourceEnds source out run status line → ConvertEnds file out run status line
  lifted (step.done p q f d spelled told) =
      done p q f (told_with (Holding file source) (StoresText true source out) (HasConverted file out) run.before run.after holding
      (λ a b h s. record {
        design = s.design;
        source = record { source = source; held = h.1 ∙ ap Some h.2.1; within = within; spelled = s.spelled.0; only = s.spelled.1 };
        stored = s.stored;
        values = s.values;
        others = s.others;
      }) told)
  lifted (step.refused code number p q f cause none kept) =
      refused code number p q f (told_with (Holding file source) SameNames (HasRefused file code number) run.before run.after holding
      (λ a b h s. record { source = source; held = h.1 ∙ ap Some h.2.1; within = within; cause = cause; none = none; names = s }) kept)
  lifted (step.unstored p q f told) =
      unstored p q f (told_with (Holding file source) (StoresText false source out) (HasStoredInPart file out) run.before run.after holding
      (λ a b h s. record {
        design = s.design;
        source = record { source = source; held = h.1 ∙ ap Some h.2.1; within = within; spelled = s.spelled.0; only = s.spelled.1 };
        stored = s.stored;
        others = s.others;
      }) told)
  lifted (step.no_memory p q f kept) = no_memory p q (inl f) kept

  fits : SourceEnds source out run status line → (Rose run.faults_before.store run.faults_after.store → ⊥) → StatusFits source status
  fits (step.done p q f d spelled told) quiet = record { converted = λ d w s. inl p; refused = λ w none. absurd (none d spelled.0); too_long = λ beyond. absurd (omega arith) }
  fits (step.refused code number p q f cause none kept) quiet = record { converted = λ d w s. absurd (none d s); refused = λ w n. inl p; too_long = λ beyond. absurd (omega arith) }
  fits (step.unstored p q f told) quiet = absurd (quiet f.store)
  fits (step.no_memory p q f kept) quiet = record { converted = λ d w s. inr p; refused = λ w n. inr p; too_long = λ beyond. inr p }

-- a shelf that tells, tells of one source
fits_told : (file source : List ℕ) (status : ℕ) (x : Option Seen) → IfSome x (Holding file source) → StatusFits source status → IfSome x (λ before. (other : List ℕ) → before.holds file ≡ Some other → StatusFits other status)
fits_told file source status None holding fits = tt
fits_told file source status (Some s) holding fits = λ other held.
    let first : s.holds file ≡ Some source = holding.1 ∙ ap Some holding.2.1 in
    let same : Some source ≡ Some other = sym first ∙ held in
    let is : source ≡ other = cc in
    subst (λ (bytes : List ℕ). StatusFits bytes status) is fits

-- a fetch that fails nowhere leaves the counts
counts_kept : (c d : Counts) → d.fetch ≡ c.fetch → d ≡ record c { fetch = d.fetch } → d ≡ c
counts_kept c d counted others = others ∙ ap (λ n. record { fetch = n; store = c.store; print = c.print; complain = c.complain }) counted

same_run : (x y z : Option Seen) (c d e : Counts) → y ≡ x → d ≡ c → run_of y z d e ≡ run_of x z c e
same_run x y z c d e seen counts = ap (λ (s : Option Seen). run_of s z d e) seen ∙ ap (λ (k : Counts). run_of x z k e) counts

-- the whole source was fetched
pub whole_ends : (file out source : List ℕ) (x y z : Option Seen) (c d e : Counts) (status : ℕ) → Finds Whole x file (2 ^ 20) source → y ≡ x → d.fetch ≡ c.fetch → d ≡ record c { fetch = d.fetch } → EndsSource source out (run_of y z d e) status → Ends (Convert file out) (run_of x z c e) status
whole_ends file out source x y z c d e status found seen counted others ends =
    let is = same_run x y z c d e seen (counts_kept c d counted others) in
    let here = subst (λ (run : Run). EndsSource source out run status) is ends in
    (here.0, lifted file out source (run_of x z c e) status here.0 found.told found.within here.1, here.2)

pub whole_completes : (file out source : List ℕ) (x y z : Option Seen) (c d e : Counts) (status : ℕ) → Finds Whole x file (2 ^ 20) source → y ≡ x → d.fetch ≡ c.fetch → d ≡ record c { fetch = d.fetch } → EndsSource source out (run_of y z d e) status → ConvertCompletes file (run_of x z c e) status
whole_completes file out source x y z c d e status found seen counted others ends =
    let is = same_run x y z c d e seen (counts_kept c d counted others) in
    let here = subst (λ (run : Run). EndsSource source out run status) is ends in
    λ quiet_fetch quiet_store. fits_told file source status x found.told (fits file out source (run_of x z c e) status here.0 found.told found.within here.1 quiet_store)

-- the source is too long
abbrev HoldingMore : List ℕ → List ℕ → Seen → Type 0
HoldingMore file bytes s = (held : List ℕ) × (s.holds file ≡ Some held) × IsPortion TooLong held (2 ^ 20) bytes

longer : (bytes held : List ℕ) → length bytes ≡ 2 ^ 20 + 1 → IsFront bytes held → 2 ^ 20 < length held
longer bytes held long front = omega (arith, ap length front.1, length-append bytes front.0)

-- a line that was made, or want of memory for it
abbrev Said : Result (Vec ℕ Global) Memory → ℕ → ℕ → Type 0
Said made status code = MatchResult made (λ l. status ≡ code) (λ l. status ≡ MEMORY)

abbrev SaidOf : Result (Vec ℕ Global) Memory → Run → Type 0
SaidOf made run = MatchResult made (λ l. OnlyComplains l.items run) (λ l. OnlyComplains memory_line run)

pub too_long_ends : (file out bytes : List ℕ) (made : Result (Vec ℕ Global) Memory) (x y z : Option Seen) (c d e : Counts) (status : ℕ) → Finds TooLong x file (2 ^ 20) bytes → y ≡ x → d.fetch ≡ c.fetch → d ≡ record c { fetch = d.fetch } → IfOk made (λ l. l.items ≡ too_long_line file) → Said made status TOO_LONG → SaidOf made (run_of y z d e) → Ends (Convert file out) (run_of x z c e) status
too_long_ends file out bytes (Ok l) x y z c d e status found seen counted others line code said =
    let is = same_run x y z c d e seen (counts_kept c d counted others) in
    let here = subst (λ (run : Run). OnlyComplains (too_long_line file) run) is (subst (λ (text : List ℕ). OnlyComplains text (run_of y z d e)) line said) in (
      too_long_line file,
      too_long code refl here.faults (told_with (HoldingMore file bytes) SameNames (HasFoundTooLong file) x z found.told
          (λ a b h s. record { source = h.0; held = h.1; beyond = longer bytes h.0 h.2.0 h.2.1; names = s }) here.names),
      here.complaint,
    )
too_long_ends file out bytes (Err l) x y z c d e status found seen counted others line code said =
    let is = same_run x y z c d e seen (counts_kept c d counted others) in
    let here = subst (λ (run : Run). OnlyComplains memory_line run) is said in
    (memory_line, no_memory code refl (inl here.faults) here.names, here.complaint)

-- the source wasn't fetched
failed_fetch : (c d e : Counts) → Counted true c.fetch d.fetch → d ≡ record c { fetch = d.fetch } → IsFaultFree (run_of None None d e) → HasFailedFetch (run_of None None c e)
failed_fetch c d e counted others free = record {
  fetch = subst (Rose c.fetch) (sym free.fetch) counted.1;
  store = free.store ∙ ap (λ (k : Counts). k.store) others;
  print = free.print ∙ ap (λ (k : Counts). k.print) others;
}

complains_since : (line : List ℕ) (x y z : Option Seen) (c d e : Counts) → y ≡ x → d ≡ record c { fetch = d.fetch } → Complains line (run_of y z d e) → Complains line (run_of x z c e)
complains_since line x y z c d e seen others h =
    subst (λ n. Told (Complained line n e.complain) x z) (ap (λ (k : Counts). k.complain) others) (subst (λ (s : Option Seen). Told (Complained line d.complain e.complain) s z) seen h)

pub unfetched_ends : (file out : List ℕ) (made : Result (Vec ℕ Global) Memory) (x y z : Option Seen) (c d e : Counts) (status : ℕ) → y ≡ x → Counted true c.fetch d.fetch → d ≡ record c { fetch = d.fetch } → IfOk made (λ l. l.items ≡ shelf_line file) → Said made status SHELF → SaidOf made (run_of y z d e) → Ends (Convert file out) (run_of x z c e) status
unfetched_ends file out (Ok l) x y z c d e status seen counted others line code said =
    let here = subst (λ (text : List ℕ). OnlyComplains text (run_of y z d e)) line said in
    let failed = failed_fetch c d e counted others (record { fetch = here.faults.fetch; store = here.faults.store; print = here.faults.print }) in (
      shelf_line file,
      unfetched code refl (record { fetch = failed.fetch; store = failed.store; print = failed.print }) (subst (λ (s : Option Seen). Told SameNames s z) seen here.names),
      complains_since (shelf_line file) x y z c d e seen others here.complaint,
    )
unfetched_ends file out (Err l) x y z c d e status seen counted others line code said =
    let failed = failed_fetch c d e counted others (record { fetch = said.faults.fetch; store = said.faults.store; print = said.faults.print }) in (
      memory_line,
      no_memory code refl (inr (record { fetch = failed.fetch; store = failed.store; print = failed.print })) (subst (λ (s : Option Seen). Told SameNames s z) seen said.names),
      complains_since memory_line x y z c d e seen others said.complaint,
    )

-- memory was wanting for the source
pub memory_ends : (file out : List ℕ) (x y z : Option Seen) (c d e : Counts) (status : ℕ) → y ≡ x → d.fetch ≡ c.fetch → d ≡ record c { fetch = d.fetch } → status ≡ MEMORY → OnlyComplains memory_line (run_of y z d e) → Ends (Convert file out) (run_of x z c e) status
memory_ends file out x y z c d e status seen counted others code said =
    let here = subst (λ (run : Run). OnlyComplains memory_line run) (same_run x y z c d e seen (counts_kept c d counted others)) said in
    (memory_line, no_memory code refl (inl here.faults) here.names, here.complaint)

-- the command never ends with the status of words that give none
pub never_words : (file out : List ℕ) (run : Run) (status : ℕ) → Ends (Convert file out) run status → status ≡ WORDS → ⊥
never_words file out run status ends is = by ends.0 ends.1
  where
    differ : (code : ℕ) → status ≡ code → eqb code WORDS ≡ false → ⊥
    differ code p other = eqb-false code WORDS other (sym p ∙ is)

    by : (line : List ℕ) → ConvertEnds file out run status line → ⊥
    by line (done p q f told) = differ DONE p refl
    by line (refused code number p q f told) = differ REFUSED p refl
    by line (unfetched p q f kept) = differ SHELF p refl
    by line (unstored p q f told) = differ SHELF p refl
    by line (no_memory p q f kept) = differ MEMORY p refl
    by line (too_long p q f told) = differ TOO_LONG p refl

-- what the command completes as, said of each command that the words give
pub completes_as : (words : List (List ℕ)) (file out : List ℕ) (run : Run) (status : ℕ) → IsConvert words file out → ConvertCompletes file run status → (command : Command) → Gives words command → Completes command run status
completes_as words file out run status one completes (Convert file' out') other =
    subst (λ (name : List ℕ). ConvertCompletes name run status) (same_file words file out file' out' one other) completes
completes_as words file out run status one completes (Sim file') other = absurd (not_sim words file out file' one other)

-- how the command ends, said of each command that the words give
pub ends_as : (words : List (List ℕ)) (file out : List ℕ) (run : Run) (status : ℕ) → IsConvert words file out → Ends (Convert file out) run status → (command : Command) → Gives words command → Ends command run status
ends_as words file out run status one ends (Convert file' out') other =
    subst (λ (name : List ℕ). Ends (Convert file' name) run status) (same_out words file out file' out' one other)
    (subst (λ (name : List ℕ). Ends (Convert name out) run status) (same_file words file out file' out' one other) ends)
ends_as words file out run status one ends (Sim file') other = absurd (not_sim words file out file' one other)

-- the source is refused
pub source_refused : (source out line said : List ℕ) (code : Code) (number : ℕ) (run : Run) (status : ℕ) → IsRefusedFor source code number → SpellsNone source → line ≡ refusal_line code number → said ≡ line → status ≡ REFUSED → OnlyComplains said run → EndsSource source out run status
source_refused source out line said code number run status cause none is same code_is h =
    let here = subst (λ (text : List ℕ). OnlyComplains text run) (same ∙ is) h in
    (refusal_line code number, step.refused code number code_is refl here.faults cause none here.names, here.complaint)
