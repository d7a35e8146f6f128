-- An unpin comes to its plain meaning; what its release leaves unfinished is settled by the next call.
use Rattle.std.proofs.Common.{◌≡◌, ◌⊎◌, ℕ, ◌<◌, ◌≤◌, if◌then◌else◌, Bool, true, false, List, Option, Some, None, Result, Ok, Err, IfErr, IsTrue, refl, sym, ap, ◌∙◌, subst, inl, inr}
use Rattle.xp_words.specs.KindWords.{is_kind, kind_fields, kind_write}
use Rattle.xp_words.specs.Machine.{IsMachine, Machine}
use Rattle.xp_words.specs.PageTypes.{type_number}
use Rattle.xp_words.specs.declared.kind.KindWord.{KindWord}
use Rattle.xp_words.specs.declared.place.Place.TheVariants.{Kind, Vcpu}
use Rattle.xp_words.specs.declared.reply.Pause.TheVariants.{Due}
use Rattle.xp_words.specs.declared.reply.Refusal.{Refusal}
use Rattle.xp_words.specs.declared.reply.Refusal.TheVariants as refusals
use Rattle.xp_words.specs.declared.reply.Stop.{Stop}
use Rattle.xp_words.specs.declared.reply.Stop.TheVariants.{Paused}
use Rattle.xp_board.specs.declared.step.StepKind.TheVariants as kinds
use Rattle.xp_board.specs.Told.{Post, PortValue, is_telling, told_word}
use Rattle.step_maker.specs.Answers.{Deed, Serves}
use Rattle.step_maker.specs.Asked.{Request}
use Rattle.step_maker.specs.Holds.{FlushedSame, Rests}
use Rattle.step_maker.specs.Moves.{Came}
use Rattle.step_maker.specs.Plain.{Words}
use Rattle.step_maker.proofs.Coming.{came_post, came_trans, moves_came}
use Rattle.step_maker.proofs.Telling.{came_telling, told_there, told_elsewhere}
use Rattle.step_maker.proofs.Piecing.{serves_came}
use Rattle.answer_laws.proofs.Shared.{alone_telling}
use Rattle.kind_words.proofs.KindWriting.{fields_write}
use Rattle.partial_state.specs.Levels.{level_type}
use Rattle.table_words.specs.OldWords.{old_place}
use Rattle.table_words.specs.declared.old_words.OldWord.TheVariants.{First}
use Rattle.table_words.specs.Pins.{unpinned_kind}
use Rattle.table_words.proofs.PinWords.{unpinned_is}
use Rattle.table_entries.specs.Acquiring.{GaveRef, GotRef}
use Rattle.table_entries.proofs.Shared.{gave_came}
use Rattle.level_release.specs.Course.{WasReleased}
use Rattle.table_bases.specs.Asking.{NamesInFirst}
use Rattle.mmuext_ops.specs.Course.{SawKind, TakesPinOff, Unpinned, is_pinned, lost, raced, released, unpinned_before, unreferred}
use Rattle.mmuext_ops.specs.Elements.{ext_request}
use Rattle.mmuext_ops.specs.declared.element.Element.TheVariants.{Unpin}
use Rattle.table_law.specs.Alone.{Cause, take_reference}
use Rattle.table_law.specs.Plain.{Describes, Plain, sober, with_kind}
use Rattle.table_law.specs.Release.{let_go}
use Rattle.table_twins.specs.Answers.{IsCause}
use Rattle.table_twins.proofs.Typing.{live_sober}
use Rattle.course_laws.proofs.Awaiting.{AloneStays, alone_orderly}
use Rattle.release_laws.specs.Pauses.{IsLeft}
use Rattle.pin_laws.proofs.Lending.{got_there}
use Rattle.pin_laws.proofs.Looking.{back_came, kind_apart, looked_came, seen_word, words_back}
use Rattle.script_law.specs.Elements.{performed}
use Rattle.script_law.specs.Frames.{unpin_by}
use Rattle.script_law.specs.Values.{Solo, Frames, IsUnpinned, Outcome, did, looked_by, stopped, with_frames}
use Rattle.solo_ports.specs.Coming.{Comes, IsDoneSo, IsRefusedSo}
use Rattle.solo_ports.specs.Standing.{Clean, IsSettled, IsUnkept, Owes, Stands, a_release, nothing, whose}
use Rattle.solo_ports.proofs.Pinned.{IsPinnedTable, pinned_table, sober_pinned, table_level}
use Rattle.turn_measures.proofs.Naming.{released_away}
use Rattle.solo_ports.proofs.Staying.{put_word}
use Rattle.solo_pins.specs.Performing.{IsPerformed, KeepsPin}
use Rattle.solo_pins.proofs.Given.{PausedReleaseLeaves, ReleaseLeaves}
use Rattle.solo_pins.proofs.Standing.{IsMild, SetsNothing, clean_same, second_same, stands_stay}
use Rattle.solo_ports.proofs.Unkept.{unkept_kind, unkept_let_go}
use Rattle.solo_pins.proofs.Deeds.{sets_nothing}
use Rattle.solo_pins.proofs.Looking as looking
use Rattle.solo_pins.proofs.Looking.{describes_back, no_refusal, referred, telling_seen, words_seen}
use Rattle.solo_pins.proofs.Flushing.{done_so}

-- ---- the reference that is looked under is not to be had
pub refused_looked : (n : Machine) (d f : ℕ) (w : PortValue) (x : Solo) (y : Refusal) (c : Cause) (next : Solo → Outcome) → (take_reference n d f x.frames).refusal ≡ Some c → IsCause y c → Clean w x →
    IsRefusedSo w y (looked_by (take_reference n d f x.frames).refusal x next)
refused_looked n d f w x y c next is same clean =
    subst (λ r. IsRefusedSo w y (looked_by r x next)) (sym is) (record { why = Frames c; is = refl; same = same; none = refl; owes = nothing clean })

-- ---- the unpin
module _ (stays : AloneStays) (release : ReleaseLeaves) (paused : PausedReleaseLeaves)
    (v w : PortValue) (x : Solo) (f : ℕ) (awaited : Option ℕ) (clean : Clean v x) (settled : IsSettled v) where
  abbrev n : Machine
  n = v.post.machine

  abbrev d : ℕ
  d = (whose v).domain

  abbrev p : Plain
  p = x.frames

  telling : is_telling v ≡ true
  telling = alone_telling v clean.stands.alone

  machine : IsMachine v.post.machine
  machine = clean.stands.machine

  abbrev meaning : Outcome
  meaning = performed (whose v) (Unpin f) x

  abbrev after : KindWord → Outcome
  after k = did (with_frames (let_go (type_number k.kind) f (with_kind f (unpinned_kind k) p)) x)

  module _ (a b : PortValue) (y : ℕ) (ref : GotRef v a f d (Ok f)) (saw : SawKind a b f y) where
    inside : f < n.frames
    inside = (referred v a b d f y p machine telling clean.frames ref saw).inside

    seen : y ≡ told_word v (Kind f)
    seen = seen_word v a b d f y machine telling ref saw

    kind_is : p.kinds f ≡ sober (kind_fields y)
    kind_is = clean.frames.kinds f inside ∙ ap (λ z. sober (kind_fields z)) (sym seen)

    pinned_is : (p.kinds f).pinned ≡ is_pinned y
    pinned_is = ap (λ (k : KindWord). k.pinned) kind_is ∙ sober_pinned (kind_fields y)

    found_same : (c : PortValue) (found : ℕ) → TakesPinOff b c f y found → found ≡ y
    found_same c found takes =
        sym (told_there b c (Kind f) _ kinds.Kind None found takes (telling_seen v a b d f y p machine telling clean.frames ref saw))
        ∙ ap (λ (m : Words). m (Kind f)) (words_seen v a b d f y p machine telling clean.frames ref saw)
        ∙ got_there n (told_word v) d f machine ((ref.plain telling).0) (Kind f) (kind_apart f) ∙ sym seen

    -- which way it goes
    by_pin : (o : Bool) (P : Outcome → Type 0) → is_pinned y ≡ o → P (if o then after (p.kinds f) else stopped (IsUnpinned (p.kinds f)) x) → P meaning
    by_pin o P is holds =
        subst (λ r. P (looked_by r x (λ s. unpin_by f s (s.frames.kinds f)))) (sym (no_refusal v a b d f y p machine telling clean.frames ref saw))
        (subst (λ o. P (if o then after (p.kinds f) else stopped (IsUnpinned (p.kinds f)) x)) (sym (pinned_is ∙ is)) holds)

    -- ---- it is not pinned
    not_pinned : Rests w → is_pinned y ≡ false → GaveRef b w f → IsRefusedSo w (refusals.NotPinned y) meaning
    not_pinned rests off gave =
        by_pin false (IsRefusedSo w (refusals.NotPinned y)) off
        (record {
          why = IsUnpinned (p.kinds f);
          is = refl;
          same = sym kind_is;
          none = refl;
          owes = nothing (clean_same stays v w x clean (back_came v a b d f y machine telling ref saw w gave)
              (λ q. ap (λ (m : Words). m q) (words_back v a b d f y machine telling ref saw w gave)) rests);
        })

    -- ---- its pin goes off
    module _ (on : is_pinned y ≡ true) (c e : PortValue) (takes : TakesPinOff b c f y y) (gave : GaveRef c e f) where
      spelled : IsTrue (is_kind (kind_fields y))
      spelled = subst (λ z. IsTrue (is_kind (kind_fields z))) (sym seen) ((alone_orderly v clean.stands.alone).spelled f inside)

      table : IsPinnedTable (kind_fields y)
      table = pinned_table (kind_fields y) spelled on

      whole : p.kinds f ≡ kind_fields y
      whole = kind_is ∙ live_sober (kind_fields y) table.live

      abbrev level : ℕ
      level = type_number (p.kinds f).kind

      abbrev off : Plain
      off = with_kind f (unpinned_kind (p.kinds f)) p

      levels : (level_type level ≡ (kind_fields y).kind) × (1 ≤ level) × (level ≤ 4)
      levels =
          subst (λ (k : KindWord). (level_type (type_number k.kind) ≡ (kind_fields y).kind) × (1 ≤ type_number k.kind) × (type_number k.kind ≤ 4)) (sym whole)
          (table_level (kind_fields y).kind table.table)

      written : unpinned_kind (p.kinds f) ≡ sober (kind_fields (kind_write (unpinned_kind (kind_fields y))))
      written =
          ap unpinned_kind whole ∙ sym (live_sober (unpinned_kind (kind_fields y)) table.live)
          ∙ ap sober (sym (fields_write (unpinned_kind (kind_fields y)) (unpinned_is (kind_fields y) spelled table.live)))

      describes : Describes n (told_word e) off
      describes = describes_back v a b d f y p machine telling clean.frames ref saw c e (kind_write (unpinned_kind (kind_fields y))) (unpinned_kind (p.kinds f)) written takes gave

      came_b : Came v b
      came_b = looked_came v a b d f y machine telling ref saw

      came_c : Came v c
      came_c = came_trans v b c came_b (moves_came b c _ _ _ _ _ takes)

      telling_c : is_telling c ≡ true
      telling_c = came_telling v c came_c ∙ telling

      came_e : Came v e
      came_e = came_trans v c e came_c (gave_came c e f gave)

      telling_e : is_telling e ≡ true
      telling_e = came_telling v e came_e ∙ telling

      post_e : e.post ≡ v.post
      post_e = came_post v e came_e

      -- the words of vCPUs are as they were
      words_e : (s k : ℕ) → told_word e (Vcpu s k) ≡ told_word v (Vcpu s k)
      words_e s k =
          gave.plain telling_c (Vcpu s k) ∙ put_word f s k (told_word c) ∙ told_elsewhere b c _ _ _ _ _ takes (Vcpu s k) (λ q. absurd cc) ∙ ap (λ (m : Words). m (Vcpu s k)) (words_seen v a b d f y p machine telling clean.frames ref saw)
          ∙ got_there n (told_word v) d f machine ((ref.plain telling).0) (Vcpu s k) (λ z. cc)

      low_e : f < e.post.machine.frames
      low_e = subst (λ (o : Post). f < o.machine.frames) (sym post_e) inside

      describes_e : Describes e.post.machine (told_word e) off
      describes_e = subst (λ (o : Post). Describes o.machine (told_word e) off) (sym post_e) describes

      unkept : IsUnkept n (let_go level f off)
      unkept = unkept_let_go n level f off (unkept_kind n f (unpinned_kind (p.kinds f)) p (clean.stands.unkept f inside) clean.stands.unkept)

      module _ (answers : List Bool) (answer : Result (Unit {0}) Stop) (rel : WasReleased e f (kind_fields y).kind w answers answer) where
        rel_level : WasReleased e f (level_type level) w answers answer
        rel_level = subst (λ t. WasReleased e f t w answers answer) (sym levels.0) rel

      module _ (ds : List Deed) (r : Request) (serves : Serves v w r ds) (mild : IsMild r) (none : SetsNothing ds) (rests : Rests w) (old : w.holdings.old1 ≡ Some 0) where
        came : Came v w
        came = serves_came v w r ds serves

        post : w.post ≡ v.post
        post = came_post v w came

        stands : Stands w (with_frames (let_go level f off) x)
        stands = stands_stay stays v w x (let_go level f off) r ds clean.stands serves mild none rests old unkept

        owes : (answers : List Bool) (answer : Result (Unit {0}) Stop) → WasReleased e f (kind_fields y).kind w answers answer → IfErr answer (λ stop. stop ≡ Paused Due) → Owes w (with_frames (let_go level f off) x)
        owes answers (Ok done) rel due =
            let kept = (released_away None e f (kind_fields y).kind w answers (Ok done) refl rel).same v.post.vcpu 2 ∙ words_e v.post.vcpu 2 ∙ clean.first in
            let left = release e w f level answers off (subst (λ (o : Post). IsMachine o.machine) (sym post_e) machine) telling_e low_e levels.2 describes_e (rel_level answers (Ok done) rel) in
            nothing
            (record {
              stands = stands;
              first = subst (λ (o : Post). told_word w (old_place o.vcpu First) ≡ 0) (sym post) kept;
              frames = subst (λ (o : Post). Describes o.machine (told_word w) (let_go level f off)) (post_e ∙ sym post) left;
            })
        owes answers (Err stop) rel due =
            let left = paused e w f level answers off telling_e low_e levels.2 describes_e (subst (λ (z : Stop). WasReleased e f (level_type level) w answers (Err z)) due (rel_level answers (Err stop) rel)) in
            a_release f level stands (subst (λ m. IsLeft m w f level (let_go level f off)) (sym left.machine) left)

        unpinned : (answers : List Bool) (answer : Result (Unit {0}) Stop) → WasReleased e f (kind_fields y).kind w answers answer → IfErr answer (λ stop. stop ≡ Paused Due) → IsDoneSo w meaning
        unpinned answers answer rel due = by_pin true (IsDoneSo w) on (done_so w (with_frames (let_go level f off) x) (owes answers answer rel due))

  -- ---- the whole
  old_by : FlushedSame v w ⊎ NamesInFirst v w f → w.holdings.old1 ≡ Some 0
  old_by (inl same) = second_same v w same settled.second
  old_by (inr named) = ap (λ (z : PortValue). z.holdings.old1) named ∙ settled.second

  pub unpins : (answers : List Bool) (answer : Result (Unit {0}) Stop) → IsPerformed v w d (Unpin f) awaited answers answer → Unpinned v w d f answers answer → Comes (KeepsPin (Unpin f)) w x meaning answer
  unpins _ _ a (unreferred stop ref) =
      let u = looking.unreferred v w d f p stop telling clean.frames ref in
      subst (λ (e : Stop). Comes (KeepsPin (Unpin f)) w x meaning (Err e)) (sym u.stops)
      (refused_looked n d f w x u.refusal u.cause (λ s. unpin_by f s (s.frames.kinds f)) u.is u.same (clean_same stays v w x clean u.came u.leaves a.rests))
  unpins _ _ a (unpinned_before b c y ref saw free gave) = not_pinned b c y ref saw a.rests free gave
  unpins _ _ a (raced b c e y found ref saw on takes other free gave) = absurd (other (found_same b c y ref saw e found takes))
  unpins _ _ a (lost b c e y found ref saw on takes other more gave) = absurd (other (found_same b c y ref saw e found takes))
  unpins _ _ a (released b c g e y answers answer ref saw on takes gave rel due) =
      let s = a.serves in
      unpinned b c y ref saw on g e takes gave s.0 (ext_request n v.post.vcpu d (Unpin f) awaited (Ok tt)) s.2 (record { destroys = refl; grants = refl; pages = refl }) (sets_nothing n v.post.vcpu (Unpin f) (Ok tt) s.0 s.1 tt tt) a.rests
      (old_by a.hand) answers answer rel due
