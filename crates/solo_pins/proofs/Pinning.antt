-- A pin comes to its plain meaning, or is paused by the gate and will go on.
use Rattle.std.proofs.Common.{◌≡◌, ℕ, ◌<◌, ◌≤◌, true, false, List, Some, None, Ok, Err, IsTrue, sym, ap, ◌∙◌, subst}
use Rattle.xp_words.specs.KindWords.{is_kind, kind_fields, kind_write}
use Rattle.xp_words.specs.Machine.{Machine}
use Rattle.xp_words.specs.PageTypes.{is_table}
use Rattle.xp_words.specs.declared.kind.KindWord.{KindWord}
use Rattle.xp_words.specs.declared.place.Place.TheVariants.{Kind}
use Rattle.xp_words.specs.declared.reply.Stop.{Stop}
use Rattle.xp_board.specs.declared.step.Act.TheVariants.{Load}
use Rattle.xp_board.specs.declared.step.StepKind.TheVariants as kinds
use Rattle.xp_board.specs.Told.{Post, PortValue, is_telling, told_word}
use Rattle.step_maker.specs.Answers.{Deed, Serves}
use Rattle.step_maker.specs.Asked.{Request}
use Rattle.step_maker.specs.Holds.{Rests}
use Rattle.step_maker.specs.Moves.{Came}
use Rattle.step_maker.proofs.Coming.{came_post, moves_came}
use Rattle.step_maker.proofs.Piecing.{serves_came}
use Rattle.step_maker.proofs.Telling.{came_telling, load_tells, told_there}
use Rattle.answer_laws.proofs.Shared.{alone_telling}
use Rattle.kind_words.proofs.KindWriting.{fields_write}
use Rattle.partial_state.specs.Levels.{level_type}
use Rattle.partial_state.proofs.LevelFacts.{level_type-table}
use Rattle.table_words.specs.Pins.{pinned_kind}
use Rattle.table_words.proofs.PinWords.{pinned_is}
use Rattle.mmuext_ops.specs.Course.{PinEnds, SawKind, SetsPin, is_pinned, lost, pinned, raced, seen}
use Rattle.table_law.specs.Alone.{PlainOutcome, alone}
use Rattle.table_law.specs.Plain.{Describes, Plain, sober, with_kind}
use Rattle.table_law.proofs.Describing.{sober_live}
use Rattle.table_twins.proofs.Entering.{described_leaves}
use Rattle.table_twins.proofs.Typing.{live_sober}
use Rattle.course_laws.proofs.Awaiting.{AloneStays, alone_orderly}
use Rattle.course_laws.proofs.Completing.{described_kind}
use Rattle.script_law.specs.Frames.{is_pinned_as}
use Rattle.script_law.specs.Values.{Solo, Outcome, behind, behind_by, did, with_frames}
use Rattle.solo_ports.specs.Coming.{IsDoneSo}
use Rattle.solo_ports.specs.Standing.{Clean, IsSettled, Stands, nothing}
use Rattle.solo_ports.proofs.Unkept.{unkept_alone, unkept_kind}
use Rattle.solo_ports.proofs.Pinned.{sober_pinned}
use Rattle.solo_pins.proofs.Acquired.{IsHeld, held}
use Rattle.solo_pins.proofs.Flushing.{done_so}
use Rattle.solo_pins.proofs.Looking.{cas_kinded}
use Rattle.solo_pins.proofs.Standing.{IsMild, SetsNothing, first_there, stands_stay}

-- ---- a frame that was acquired is pinned
abbrev pub marks : ℕ → Solo → Outcome
marks f s = did (with_frames (with_kind f (pinned_kind (s.frames.kinds f)) s.frames) s)

module _ (stays : AloneStays) (v w : PortValue) (x : Solo) (d f level : ℕ) (stands : Stands v x) (low : 1 ≤ level) (high : level ≤ 4) (free : is_pinned_as level (x.frames.kinds f) ≡ false) where
  abbrev n : Machine
  n = v.post.machine

  abbrev o : PlainOutcome
  o = alone v.post.machine d level f x.frames

  abbrev q : Plain
  q = with_kind f (pinned_kind (o.left.kinds f)) o.left

  module _ (e : PortValue) (came : Came v e) (fine : o.refusal ≡ None) (describes : Describes n (told_word e) o.left) (inside : f < n.frames) where
    telling : is_telling e ≡ true
    telling = came_telling v e came ∙ alone_telling v stands.alone

    has : IsHeld (level_type level) (o.left.kinds f)
    has = held n d f level x.frames low high free fine

    module _ (u : PortValue) (y : ℕ) (saw : SawKind e u f y) where
      there : told_word e (Kind f) ≡ y
      there = told_there e u (Kind f) Load kinds.Look None y saw telling

      kind_is : o.left.kinds f ≡ sober (kind_fields y)
      kind_is = describes.kinds f inside ∙ ap (λ z. sober (kind_fields z)) there

      off : is_pinned y ≡ false
      off = sym (sober_pinned (kind_fields y)) ∙ sym (ap (λ (k : KindWord). k.pinned) kind_is) ∙ has.unpinned

      live : (kind_fields y).validated ≡ true
      live = sym (sober_live (kind_fields y)) ∙ sym (ap (λ (k : KindWord). k.validated) kind_is) ∙ has.live

      whole : o.left.kinds f ≡ kind_fields y
      whole = kind_is ∙ live_sober (kind_fields y) live

      spelled : IsTrue (is_kind (kind_fields y))
      spelled =
          subst (λ z. IsTrue (is_kind (kind_fields z))) there
          ((alone_orderly e (stays v e stands.alone came)).spelled f (subst (λ (p : Post). f < p.machine.frames) (sym (came_post v e came)) inside))

      table : IsTrue (is_table (kind_fields y).kind)
      table = ap is_table (sym (ap (λ (k : KindWord). k.kind) whole) ∙ has.kind) ∙ level_type-table level low

      counted : 0 < (kind_fields y).number
      counted = subst (λ (k : KindWord). 0 < k.number) whole has.some

      written : pinned_kind (o.left.kinds f) ≡ sober (kind_fields (kind_write (pinned_kind (kind_fields y))))
      written =
          ap pinned_kind whole ∙ sym (live_sober (pinned_kind (kind_fields y)) live) ∙ ap sober (sym (fields_write (pinned_kind (kind_fields y)) (pinned_is (kind_fields y) spelled live table counted)))

      telling_u : is_telling u ≡ true
      telling_u = came_telling e u (moves_came e u _ _ _ _ _ saw) ∙ telling

      -- the exchange finds what the look found
      found_same : (z : PortValue) (found : ℕ) → SetsPin u z f y found → found ≡ y
      found_same z found sets = sym (told_there u z (Kind f) _ _ _ found sets telling_u) ∙ load_tells e u (Kind f) kinds.Look None y saw telling (Kind f) ∙ there

      describes_w : SetsPin u w f y y → Describes n (told_word w) q
      describes_w sets =
          described_kind n (told_word u) (told_word w) o.left f (kind_write (pinned_kind (kind_fields y))) (pinned_kind (o.left.kinds f)) (cas_kinded u w f y (kind_write (pinned_kind (kind_fields y))) telling_u sets) written
          (described_leaves n u (told_word e) o.left (load_tells e u (Kind f) kinds.Look None y saw telling) describes)

      module _ (settled : IsSettled v) (r : Request) (ds : List Deed) (serves : Serves v w r ds) (mild : IsMild r) (none : SetsNothing ds) (rests : Rests w) (first : w.holdings.old0 ≡ Some 0) (second : w.holdings.old1 ≡ Some 0) where
        pub clean_pinned : SetsPin u w f y y → Clean w (with_frames q x)
        clean_pinned sets =
            let came_w = serves_came v w r ds serves in
            record {
              stands = stands_stay stays v w x q r ds stands serves mild none rests second
                  (unkept_kind n f (pinned_kind (o.left.kinds f)) o.left (unkept_alone n d level f x.frames stands.unkept f inside) (unkept_alone n d level f x.frames stands.unkept));
              first = first_there stays v w x stands came_w rests 0 first;
              frames = subst (λ (p : Post). Describes p.machine (told_word w) q) (sym (came_post v w came_w)) (describes_w sets);
            }

  module _ (settled : IsSettled v) (r : Request) (ds : List Deed) (serves : Serves v w r ds) (mild : IsMild r) (none : SetsNothing ds) (rests : Rests w) where
    pub pin_done : (e : PortValue) → Came v e → o.refusal ≡ None → Describes n (told_word e) o.left → f < n.frames → w.holdings.old0 ≡ Some 0 → w.holdings.old1 ≡ Some 0 → PinEnds e w f level (Ok tt) → IsDoneSo w (behind x o (marks f))
    pin_done e came fine describes inside first second (pinned u y saw free_there sets) =
        subst (λ c. IsDoneSo w (behind_by x o c (marks f))) (sym fine)
        (done_so w (with_frames q x) (nothing (clean_pinned e came fine describes inside u y saw settled r ds serves mild none rests first second sets)))

    pub pin_stops : (e : PortValue) → Came v e → o.refusal ≡ None → Describes n (told_word e) o.left → f < n.frames → (stop : Stop) → PinEnds e w f level (Err stop) → ⊥
    pin_stops e came fine describes inside _ (seen u y saw on gives) = absurd (let e = sym (off e came fine describes inside u y saw) ∙ on in cc)
    pin_stops e came fine describes inside _ (raced u z y found saw off_there sets other on gives) = absurd (other (found_same e came fine describes inside u y saw z found sets))
    pin_stops e came fine describes inside _ (lost u z y found saw off_there sets other more gives) = absurd (other (found_same e came fine describes inside u y saw z found sets))
