-- The elements of `mmuext_op`: what each asks for, what a guest sees of it, and what it leaves in hand.
use Rattle.std.specs.Prelude.{◌≡◌, ◌⊎◌, ◌==◌, ◌||◌, ℕ, ◌+◌, ◌%◌, ◌^◌, nat_lt, if◌then◌else◌, Bool, true, false, List, [], ◌∷◌, length, Option, Some, None, Result, Ok, Err, IfErr}
use Rattle.xp_words.specs.ContextWords.{ldt_write}
use Rattle.xp_words.specs.Machine.{Machine}
use Rattle.xp_words.specs.declared.ops.ExtOp.{ExtOp}
use Rattle.xp_words.specs.declared.place.Place.TheVariants.{Kind}
use Rattle.xp_words.specs.declared.reply.Pause.TheVariants.{Busy, Due, Flush, Lost}
use Rattle.xp_words.specs.declared.reply.Refusal.TheVariants as refusals
use Rattle.xp_words.specs.declared.reply.Stop.{Stop}
use Rattle.xp_words.specs.declared.reply.Stop.TheVariants.{Refused, Paused}
use Rattle.xp_board.specs.Told.{PortValue}
use Rattle.step_maker.specs.Holds.{FlushedSame}
use Rattle.step_maker.specs.Answers.{Deed, Forgets, Misses, Pins, Serves, SetsWord, Stops, Unpins, missed, only_if}
use Rattle.step_maker.specs.Asked.{Request, of_frame, of_numbers, of_table}
use Rattle.step_maker.specs.Reasons.{HadClock}
use Rattle.flush_waits.specs.Waiting.{IsWait, meant}
use Rattle.table_bases.specs.Asking.{IsBaseStop, IsSpentStop, LeavesBase, may_rise, of_base, user_frame, NamesInFirst}
use Rattle.table_bases.specs.Holding.{naming}
use Rattle.tlb_walks.specs.Addresses.{is_canonical, page_of}
use Rattle.tlb_walks.specs.Dropping.{of_flush}
use Rattle.partial_state.specs.Levels.{level_type}
use Rattle.level_release.specs.Asking.{is_due_answer}
use Rattle.desc_pages.specs.Ldt.{IsLdtStop, ldt_base, of_ldt, unnamed_from}
use Rattle.whole_pages.specs.Whole.{IsWholeStop, clears, copies, of_clear, of_copy}
use Rattle.mmuext_ops.specs.declared.element.Element.{Element}
use Rattle.mmuext_ops.specs.declared.element.Element.TheVariants.{Pin, Unpin, NewBase, NewUserBase, FlushLocal, Invalidate, FlushVcpus, SetLdt, ClearPage, CopyPage, Unknown}

-- ---- what an element asks for
-- A mask has a bit for each of 16 vCPUs; commands 8 and 9 have one, 10 and 11 are for all of the domain. INVLPG of others empties their whole caches.
abbrev pub every_vcpu : ℕ
every_vcpu = 65535

-- commands 5 and 15 set a base, 6 and 7 drop own translations, and 8 to 11 those of vCPUs of the domain; 13 sets the LDT, and 16 and 17 clear and copy pages
abbrev pub own_element : ℕ → ℕ → ℕ → Element
own_element command first second =
    if command == 5 then NewBase first
    else if command == 6 then FlushLocal
    else if command == 7 then Invalidate first
    else if (command == 8) || (command == 9) then FlushVcpus (second % 2 ^ 16)
    else if (command == 10) || (command == 11) then FlushVcpus every_vcpu
    else if command == 13 then SetLdt first second
    else if command == 15 then NewUserBase first
    else if command == 16 then ClearPage first
    else if command == 17 then CopyPage first second
    else Unknown

-- commands 0 to 3 pin a frame as a table of levels 1 to 4, and 4 unpins one
abbrev pub ext_element : ExtOp → Element
ext_element op =
    if nat_lt op.command 4 then Pin op.first (op.command + 1)
    else if op.command == 4 then Unpin op.first
    else own_element op.command op.first op.second

-- A pin asks the frame for the type of its level, and what the entries of tables ask. An unpin gives back what the frame holds; it is
-- never paused, so its gate may have said yes.
abbrev pub of_pin : ℕ → ℕ → ℕ → Bool → Request
of_pin d f level rose = record (of_table f d (Some (level_type level)) d rose) { pins = true; locks = true }

-- a wait for the vCPUs of that mask that belong to the own domain, past the clock value that it finds, or past one found in an earlier turn
abbrev pub of_wait : Machine → ℕ → ℕ → Option ℕ → Request
of_wait n s mask awaited = record (of_frame 0 0 None) { names = λ f. false; waits = Some (record { means = meant n s mask; stamp = awaited }) }

-- For vCPU s of domain d. `awaited`: the clock value past which the element has waited since an earlier turn.
abbrev pub ext_request : Machine → ℕ → ℕ → Element → Option ℕ → Result (Unit {0}) Stop → Request
ext_request n s d (Pin f level) awaited answer = of_pin d f level (is_due_answer answer)
ext_request n s d (Unpin f) awaited answer = record (of_table f d None d true) { pins = true; locks = true; backs = λ g. g == f }
ext_request n s d (NewBase f) awaited answer = of_base d (Some f) (may_rise answer)
ext_request n s d (NewUserBase f) awaited answer = of_base d (user_frame f) (may_rise answer)
ext_request n s d FlushLocal awaited answer = of_flush
ext_request n s d (Invalidate va) awaited answer = record (of_frame 0 0 None) { names = λ f. false }
ext_request n s d (FlushVcpus mask) awaited answer = of_wait n s mask awaited
ext_request n s d (SetLdt address entries) awaited answer = of_ldt d address entries
ext_request n s d (ClearPage f) awaited answer = of_clear d f
ext_request n s d (CopyPage to from) awaited answer = of_copy d to from
ext_request n s d Unknown awaited answer = of_numbers refusals.BadCommand

-- ---- what a guest sees
-- The deeds of an element that is done: one of most elements; all words of an LDT or of a page that is cleared. One that is not done has none, but for the
-- exchange that was lost. Those of a copy are not told by its numbers.
abbrev pub ext_deeds : Machine → ℕ → Element → Result (Unit {0}) Stop → List Deed
ext_deeds n s (Pin f level) (Ok done) = Pins f ∷ []
ext_deeds n s (Unpin f) (Ok done) = Unpins f ∷ []
ext_deeds n s (NewBase f) (Ok done) = SetsWord s 0 (naming (Some f)) ∷ []
ext_deeds n s (NewUserBase f) (Ok done) = SetsWord s 1 (naming (user_frame f)) ∷ []
ext_deeds n s (Invalidate va) (Ok done) = only_if (is_canonical va) (Forgets (page_of va))
ext_deeds n s FlushLocal (Ok done) = []
ext_deeds n s (FlushVcpus mask) (Ok done) = []
ext_deeds n s (SetLdt address entries) (Ok done) = SetsWord s 7 (ldt_write (ldt_base address entries)) ∷ unnamed_from s 0 16
ext_deeds n s (ClearPage f) (Ok done) = clears f 512
ext_deeds n s (CopyPage to from) (Ok done) = []
ext_deeds n s Unknown (Ok done) = []
ext_deeds n s _ (Err e) = missed n e

abbrev pub IsTold : Element → Result (Unit {0}) Stop → Type 0
IsTold (CopyPage to from) (Ok done) = ⊥
IsTold _ _ = Unit {0}

-- The answer to an element tells its deeds, but for the words that are copied, and for an exchange that it hides: one that found another word, for which a
-- pin or an unpin is refused at once.
pub data HasDeeds (n : Machine) (s : ℕ) : Element → Result (Unit {0}) Stop → List Deed → Type 0 where
  told : (e : Element) (answer : Result (Unit {0}) Stop) → IsTold e answer → HasDeeds n s e answer (ext_deeds n s e answer)
  copied : (to from : ℕ) (words : List ℕ) → length words ≡ 512 → HasDeeds n s (CopyPage to from) (Ok tt) (copies to words)
  raced_pin : (f level found : ℕ) → HasDeeds n s (Pin f level) (Err (Refused (refusals.AlreadyPinned found))) (Misses (Kind f) ∷ [])
  raced_unpin : (f found : ℕ) → HasDeeds n s (Unpin f) (Err (Refused (refusals.NotPinned found))) (Misses (Kind f) ∷ [])

-- the steps serve what the element asks, and a guest sees these deeds of them
abbrev pub ServesElement : PortValue → PortValue → ℕ → Element → Option ℕ → Result (Unit {0}) Stop → Type 0
ServesElement v w d e awaited answer =
    (ds : List Deed) × HasDeeds v.post.machine v.post.vcpu e answer ds × Serves v w (ext_request v.post.machine v.post.vcpu d e awaited answer) ds

-- and show why it stops
abbrev pub StopsElement : PortValue → PortValue → ℕ → Element → Option ℕ → Result (Unit {0}) Stop → Type 0
StopsElement v w d e awaited answer = IfErr answer (λ x. Stops v w (ext_request v.post.machine v.post.vcpu d e awaited answer) x)

-- ---- waits that go on
-- the vCPU had found the clock at the value for which it waits
abbrev pub KnowsAwaited : PortValue → Option ℕ → Type 0
KnowsAwaited v None = Unit {0}
KnowsAwaited v (Some stamp) = HadClock v.post.machine stamp v.holdings

-- the clock value past which an element that was paused goes on to wait
abbrev pub awaited_by : Element → Result (Unit {0}) Stop → Option ℕ
awaited_by (FlushVcpus mask) (Err (Paused (Flush vcpu stamp found))) = Some stamp
awaited_by _ _ = None

-- ---- why it is not done
abbrev pub IsPinStop : Stop → Type 0
IsPinStop (Refused (refusals.NoFrame f)) = Unit {0}
IsPinStop (Refused (refusals.WrongOwner f found)) = Unit {0}
IsPinStop (Refused (refusals.CountFull f found)) = Unit {0}
IsPinStop (Refused (refusals.AlreadyPinned found)) = Unit {0}
IsPinStop (Refused (refusals.OtherType f want found)) = Unit {0}
IsPinStop (Refused (refusals.Reserved f i entry)) = Unit {0}
IsPinStop (Refused (refusals.Clock found)) = Unit {0}
IsPinStop (Paused Due) = Unit {0}
IsPinStop (Paused (Lost place expected found)) = Unit {0}
IsPinStop (Paused (Busy f found)) = Unit {0}
IsPinStop (Paused (Flush vcpu stamp found)) = Unit {0}
IsPinStop _ = ⊥

abbrev pub IsUnpinStop : Stop → Type 0
IsUnpinStop (Refused (refusals.NoFrame f)) = Unit {0}
IsUnpinStop (Refused (refusals.WrongOwner f found)) = Unit {0}
IsUnpinStop (Refused (refusals.CountFull f found)) = Unit {0}
IsUnpinStop (Refused (refusals.NotPinned found)) = Unit {0}
IsUnpinStop (Paused (Lost place expected found)) = Unit {0}
IsUnpinStop _ = ⊥

abbrev pub IsElementStop : Element → Stop → Type 0
IsElementStop (Pin f level) e = IsPinStop e
IsElementStop (Unpin f) e = IsUnpinStop e
IsElementStop (NewBase f) e = IsBaseStop (Some f) e
IsElementStop (NewUserBase f) e = IsBaseStop (user_frame f) e
IsElementStop FlushLocal e = IsSpentStop e
IsElementStop (Invalidate va) e = ⊥
IsElementStop (FlushVcpus mask) e = IsWait e
IsElementStop (SetLdt address entries) e = IsLdtStop e
IsElementStop (ClearPage f) e = IsWholeStop e
IsElementStop (CopyPage to from) e = IsWholeStop e
IsElementStop Unknown e = e ≡ Refused refusals.BadCommand

-- ---- what it leaves in hand: nothing; and what is known of the first old word

-- A refused pin may leave the frame named, and so may an unpin whose release is paused; of a base, table_bases says it. All else leaves the word as it was.
abbrev pub LeavesElement : PortValue → PortValue → Element → Result (Unit {0}) Stop → Type 0
LeavesElement v w (Pin f level) (Err (Refused x)) = FlushedSame v w ⊎ NamesInFirst v w f
LeavesElement v w (Unpin f) (Ok done) = FlushedSame v w ⊎ NamesInFirst v w f
LeavesElement v w (NewBase f) answer = LeavesBase v w (Some f) answer
LeavesElement v w (NewUserBase f) answer = LeavesBase v w (user_frame f) answer
LeavesElement v w _ _ = FlushedSame v w
