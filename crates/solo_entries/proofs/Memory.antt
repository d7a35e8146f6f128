-- A word of ordinary memory is written: the frame is taken for it, the word stored, and the frame given back.
use Rattle.std.proofs.Common.{◌≡◌, ◌<◌, ℕ, ◌&&◌, if◌then◌else◌, Bool, true, false, List, [], Some, None, Result, Ok, Err, refl, sym, ap, ◌∙◌, subst, arith, inl, inr, not, ◌≢◌, nat_lt}
use Rattle.std.proofs.lemmas.Bool.{cases_Bool}
use Rattle.table_law.proofs.Describing.{sober_live}
use Rattle.xp_words.specs.KindWords.{kind_fields}
use Rattle.xp_words.specs.Machine.{IsMachine, Machine}
use Rattle.xp_words.specs.PageTypes.{is_table}
use Rattle.xp_words.specs.declared.kind.KindWord.{KindWord}
use Rattle.xp_words.specs.declared.kind.PageType.TheVariants.{Writable}
use Rattle.xp_words.specs.declared.place.Place.TheVariants.{Cell, Kind, Refs}
use Rattle.xp_words.specs.declared.reply.Refusal.{Refusal}
use Rattle.xp_words.specs.declared.reply.Stop.{Stop}
use Rattle.xp_words.specs.declared.reply.Stop.TheVariants.{Refused, Paused}
use Rattle.xp_board.specs.declared.step.Act.TheVariants.{Store}
use Rattle.xp_board.specs.declared.step.StepKind.TheVariants as kinds
use Rattle.xp_board.specs.Told.{PortValue, is_telling, told_word}
use Rattle.step_maker.specs.Answers.{Deed, Serves}
use Rattle.step_maker.specs.Asked.{Request}
use Rattle.step_maker.specs.Holds.{Rests}
use Rattle.step_maker.specs.Moves.{Came, Moves}
use Rattle.step_maker.specs.Plain.{Leaves, Words}
use Rattle.step_maker.proofs.Coming.{came_trans, moves_came, came_self, same_machine}
use Rattle.step_maker.proofs.Telling.{came_telling}
use Rattle.step_maker.proofs.Visiting.{does_came}
use Rattle.answer_laws.proofs.Shared.{alone_telling}
use Rattle.entry_exchange.specs.Course as course
use Rattle.entry_locks.specs.Locks.{is_lockable}
use Rattle.entry_locks.specs.declared.locking.Locked.TheVariants.{Other}
use Rattle.exchange_laws.proofs.Going.{took_page_came}
use Rattle.exchange_laws.proofs.Putting.{entry_put}
use Rattle.foreign_map.specs.declared.owners.Owners.{Owners}
use Rattle.frame_words.specs.Plain.{got, refer}
use Rattle.level_release.specs.Course as release
use Rattle.mmu_update.specs.Course.{TriedLock}
use Rattle.table_entries.specs.Acquiring.{GaveType, GotRef}
use Rattle.table_entries.proofs.Shared.{ref_came}
use Rattle.table_law.specs.Alone.{Cause, PlainOutcome, alone}
use Rattle.table_law.specs.Exchange.{with_cell}
use Rattle.table_law.specs.Plain.{Describes, Plain, sober}
use Rattle.table_law.specs.Release.{let_go}
use Rattle.table_twins.proofs.Typing.{live_sober}
use Rattle.course_laws.specs.Courses.{ClockGoesOn, IsFinal}
use Rattle.writable_pages.specs.Pages.{TookPage}
use Rattle.script_law.specs.Frames.{write_by, write_memory, write_word, write_entry}
use Rattle.script_law.specs.Values.{Frames, Solo, behind_by, stopped, did, looked_by, with_frames, Numbers}
use Rattle.solo_ports.specs.Coming.{ComesUnpaused, IsDoneSo, IsRefusedSo}
use Rattle.solo_ports.specs.Standing.{Clean, IsQuiet, IsUnkept, nothing}
use Rattle.solo_ports.proofs.Resting.{clean_orderly, clean_rests}
use Rattle.solo_ports.proofs.Unkept.{unkept_alone, unkept_let_go}
use Rattle.solo_entries.proofs.Known.{Known}
use Rattle.solo_entries.proofs.Mapping.{fine_by}
use Rattle.solo_entries.proofs.Olds.{Keeps, gave_type_keeps, keeps_then, locked_keeps, moves_keeps, page_keeps, ref_keeps}
use Rattle.solo_entries.proofs.Standing.{clean_with, stands_with}
use Rattle.exchange_laws.proofs.Alone.{took_page_stops}
use Rattle.solo_entries.proofs.Stopping.{ended_by, stops_within}
use Rattle.solo_entries.proofs.Taking.{EndsSo, IsEnded, inside, page_ends}
use Rattle.xp_words.specs.Entries.{is_slot}
use Rattle.xp_words.specs.declared.reply.Refusal.TheVariants.{Slot}
use Rattle.step_maker.proofs.Piecing.{serves_came}
use Rattle.table_twins.specs.Answers.{IsCause}

-- ---- a frame that is no live table on words is none on the plain value
off_by : (t v c : Bool) → v ≡ false → ((t && v) && c) ≡ false
off_by t true c off = absurd cc
off_by true false c off = refl
off_by false false c off = refl

off_lock : (k : KindWord) → k.validated ≡ false → is_lockable k ≡ false
off_lock k off = off_by (is_table k.kind) k.validated (not k.locked && nat_lt 0 k.number) off

pub sober_lockable : (k : KindWord) → is_lockable (sober k) ≡ is_lockable k
sober_lockable k = elim (cases_Bool k.validated) [
  | inl live ↦ ap is_lockable (live_sober k live)
  | inr off ↦ off_lock (sober k) (sober_live k ∙ off) ∙ sym (off_lock k off)
]

module _ (k : Known) (v w : PortValue) (x : Solo) (o : Owners) (f i word : ℕ) (keep : Bool) (clean : Clean v x) (u y : PortValue) (found : ℕ) (ref : GotRef v u f o.tables (Ok f)) (lock : TriedLock u y f o.tables (Ok (Other found))) where
  abbrev n : Machine
  n = v.post.machine

  abbrev m : Words
  m = told_word v

  abbrev p : Plain
  p = x.frames

  telling : is_telling v ≡ true
  telling = alone_telling v clean.stands.alone

  pub none : refer n o.tables f (m (Refs f)) ≡ None
  none = (ref.plain telling).0

  came_u : Came v u
  came_u = ref_came v u f o.tables (Ok f) ref

  telling_u : is_telling u ≡ true
  telling_u = came_telling v u came_u ∙ telling

  came_y : Came v y
  came_y = came_trans v u y came_u (does_came u y _ lock.found)

  pub words : Leaves y (got f (told_word v))
  words q = (lock.plain telling_u).3 q ∙ (ref.plain telling).1 q

  pub real : f < n.frames
  real = inside v o.tables p clean.stands.machine telling (clean_rests v x clean) (clean_orderly v x clean) clean.frames f y none words came_y

  -- it is none of the live tables
  pub ordinary : is_lockable (p.kinds f) ≡ false
  ordinary =
      ap is_lockable (clean.frames.kinds f real) ∙ (sober_lockable (kind_fields (m (Kind f)))
      ∙ (ap (λ z. is_lockable (kind_fields z)) (sym ((lock.plain telling_u).0 ∙ (ref.plain telling).1 (Kind f))) ∙ (lock.plain telling_u).1))

  abbrev taking : PlainOutcome
  taking = alone v.post.machine o.tables 0 f x.frames

  abbrev after : Plain → Plain
  after q = let_go 0 f (with_cell f i word q)

  -- what the element is then
  is_memory : write_word n o f i word keep x ≡ behind_by x taking taking.refusal (λ s. did (with_frames (let_go 0 f (with_cell f i word s.frames)) s))
  is_memory =
      ap (λ r. looked_by r x (λ s. write_by n o f i word keep s (s.frames.kinds f))) (fine_by k v y x clean o.tables f none)
      ∙ ap (λ b. if b then (if is_slot (p.kinds f).kind i then stopped (Numbers (Slot i)) x else write_entry n o f i word keep x) else write_memory n o.tables f i word x) ordinary

  ends : (z : PortValue) (r : Result (Unit {0}) Stop) → TookPage y f o.tables z r → IsEnded r → EndsSo n z taking r
  ends z r page ended = page_ends v o.tables p clean.stands.machine telling (clean_rests v x clean) (clean_orderly v x clean) clean.frames f y none words came_y z r page ended

  ended : (z : PortValue) (r : Result (Unit {0}) Stop) → TookPage y f o.tables z r → Came z w → ClockGoesOn v w → IsEnded r
  ended z r page came goes = ended_by k v w r clean.stands.alone clean.stands.only goes (stops_within v y z w r came_y (took_page_stops y f o.tables z r page) came)

  -- a word of the vCPU
  keeps : (j : ℕ) (four : j ≢ 4) (five : j ≢ 5) (z : PortValue) (r : Result (Unit {0}) Stop) → TookPage y f o.tables z r → IsEnded r → Keeps v.post.vcpu j four five v z
  keeps j four five z r page is =
      keeps_then v.post.vcpu j four five (ref_keeps v.post.vcpu j four five v u f o.tables (Ok f) ref) (keeps_then v.post.vcpu j four five (locked_keeps v.post.vcpu j four five u y f o.tables (Ok (Other found)) lock) (page_keeps v.post.vcpu j four five y z f o.tables r page is))

  -- ---- what is left
  module _ (r : Request) (ds : List Deed) (serves : Serves v w r ds) (quiet : IsQuiet v.post.vcpu r ds) (rests : Rests w) where
    leaves_clean : (q : Plain) → ((j : ℕ) (four : j ≢ 4) (five : j ≢ 5) → Keeps v.post.vcpu j four five v w) → IsUnkept n q → Describes n (told_word w) q → Clean w (with_frames q x)
    leaves_clean q keeps_all unkept d =
        clean_with k v w x q clean (serves_came v w r ds serves)
        (stands_with k v w x q r ds clean.stands serves quiet rests (keeps_all 3 (λ e. absurd (omega arith)) (λ e. absurd (omega arith)) telling).same unkept) (keeps_all 2 (λ e. absurd (omega arith)) (λ e. absurd (omega arith)) telling).same d

    unkept_left : IsUnkept n taking.left
    unkept_left = unkept_alone n o.tables 0 f p clean.stands.unkept

    -- it is not to be had
    refused_memory : (z : Refusal) (c : Cause) → TookPage y f o.tables w (Err (Refused z)) → IsFinal (Refused z) → taking.refusal ≡ Some c → IsCause z c → Describes n (told_word w) taking.left → IsRefusedSo w z (write_word n o f i word keep x)
    refused_memory z c page final is same d =
        subst (IsRefusedSo w z) (sym (is_memory ∙ ap (λ t. behind_by x taking t (λ s. did (with_frames (let_go 0 f (with_cell f i word s.frames)) s))) is))
        (record { why = Frames c; is = refl; same = same; none = refl; owes = nothing (leaves_clean taking.left (λ j four five. keeps j four five w (Err (Refused z)) page final) unkept_left d) })

    pub memory_stopped : (e : Stop) → TookPage y f o.tables w (Err e) → ClockGoesOn v w → ComesUnpaused w (write_word n o f i word keep x) (Err e)
    memory_stopped (Refused z) page goes =
        let final = ended w (Err (Refused z)) page (came_self w) goes in
        let a = ends w (Err (Refused z)) page final in
        refused_memory z a.cause page final a.is a.same a.describes
    memory_stopped (Paused z) page goes = absurd (ended w (Err (Paused z)) page (came_self w) goes)

    -- it is
    module _ (a b : PortValue) (old : ℕ) (page : TookPage y f o.tables a (Ok tt)) (store : Moves a b (Cell f i) (Store word) kinds.Cell None old) (gave : GaveType b w f Writable) where
      came_a : Came v a
      came_a = came_trans v y a came_y (took_page_came y f o.tables a (Ok tt) page)

      came_b : Came v b
      came_b = came_trans v a b came_a (moves_came a b _ _ _ _ _ store)

      had : (taking.refusal ≡ None) × Describes n (told_word a) taking.left
      had = ends a (Ok tt) page tt

      at_b : Describes n (told_word b) (with_cell f i word taking.left)
      at_b = (entry_put n a b f i 0 word false (Ok old) taking.left (came_telling v a came_a ∙ telling) had.1 (course.stored old store)).1

      at_w : Describes n (told_word w) (after taking.left)
      at_w =
          subst (λ q. Describes q (told_word w) (after taking.left)) (same_machine v b came_b)
          (k.releases b w f 0 [] (with_cell f i word taking.left) (subst IsMachine (sym (same_machine v b came_b)) clean.stands.machine) (came_telling v b came_b ∙ telling) (subst (λ (q : Machine). f < q.frames) (sym (same_machine v b came_b)) real) (omega arith)
          (subst (λ q. Describes q (told_word b) (with_cell f i word taking.left)) (sym (same_machine v b came_b)) at_b) (release.plain w refl gave))

      unkept_cell : IsUnkept n (with_cell f i word taking.left)
      unkept_cell = unkept_left

      keeps_w : (j : ℕ) (four : j ≢ 4) (five : j ≢ 5) → Keeps v.post.vcpu j four five v w
      keeps_w j four five =
          keeps_then v.post.vcpu j four five (keeps j four five a (Ok tt) page tt)
          (keeps_then v.post.vcpu j four five (moves_keeps v.post.vcpu j four five a b (Cell f i) _ _ _ _ store (λ e. cc)) (gave_type_keeps v.post.vcpu j four five b w f Writable gave))

      pub memory_stored : IsDoneSo w (write_word n o f i word keep x)
      memory_stored =
          subst (IsDoneSo w) (sym (is_memory ∙ ap (λ t. behind_by x taking t (λ s. did (with_frames (let_go 0 f (with_cell f i word s.frames)) s))) had.0))
          (record { fine = refl; none = refl; owes = nothing (leaves_clean (after taking.left) keeps_w (unkept_let_go n 0 f (with_cell f i word taking.left) unkept_cell) at_w) })
