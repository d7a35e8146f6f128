-- Where nothing is left to be settled the words show the whole plain value; and they do behind the step that stops the vCPU.
use Rattle.std.proofs.Common.{◌≡◌, ◌≢◌, ◌<◌, ℕ, ◌/◌, ◌%◌, None, refl, sym, ap, ◌∙◌, subst, arith}
use Rattle.xp_words.specs.Machine.{Machine}
use Rattle.xp_words.specs.Places.{run_of}
use Rattle.xp_words.specs.declared.place.Place.{Place}
use Rattle.xp_words.specs.declared.place.Place.TheVariants.{Cell, Kind, Life, M2p, Map, Pages, Priv, Refs, Vcpu}
use Rattle.xp_words.specs.RefWords.{bit}
use Rattle.xp_board.specs.declared.holdings.Holdings.{Holdings}
use Rattle.xp_board.specs.declared.step.Act.TheVariants.{Store}
use Rattle.xp_board.specs.declared.step.StepKind.TheVariants as kinds
use Rattle.xp_board.specs.Acts.{left_by}
use Rattle.xp_board.specs.Hands.{IsEmptyHand}
use Rattle.xp_board.specs.Lists.{times, times_by}
use Rattle.xp_board.specs.Readings.{is_free}
use Rattle.xp_board.specs.Sound.{hand_of, is_hinted}
use Rattle.xp_board.specs.Told.{Post, PortValue, told_word}
use Rattle.xp_board.proofs.Sums.{same_bit}
use Rattle.step_maker.specs.Plain.{Words}
use Rattle.step_maker.proofs.Coming.{came_post, moves_came}
use Rattle.step_maker.proofs.Telling.{told_elsewhere, told_here}
use Rattle.answer_laws.proofs.Shared.{alone_telling}
use Rattle.xp_words.specs.Entries.{is_bit}
use Rattle.table_words.specs.OldWords.{old_place}
use Rattle.table_words.specs.declared.old_words.OldWord.TheVariants.{First, Second}
use Rattle.xp_words.specs.KindWords.{kind_fields}
use Rattle.table_law.specs.Plain.{share_of, sober}
use Rattle.script_law.specs.Shown.{IsShownWord, Shows}
use Rattle.script_law.specs.Shown as shown
use Rattle.script_law.specs.Values.{Solo}
use Rattle.solo_memory.proofs.Sounding.{alone_empty, alone_sound, none_of, pages_are}
use Rattle.solo_ports.specs.Standing.{Clean}
use Rattle.vcpu_turn.specs.Turning.{IsStop}
use Rattle.script_laws.specs.Opening.{IsStoppedAt}

no_raised : (f : ℕ) (u : Holdings) → IsEmptyHand u → times f u.raised ≡ 0
unfolding times_by
no_raised f u empty = rw empty.raised refl

pub clean_shows : (v : PortValue) (x : Solo) → Clean v x → Shows v.post.machine v.post.vcpu (told_word v) x
clean_shows v x c =
    let n = v.post.machine in
    let a = c.stands.alone in
    let h = hand_of a.story.hands in
    let sound = alone_sound v a in
    let empty = alone_empty v a c.stands.empty in
    record {
      frames = c.frames;
      maps = c.stands.others.maps;
      own = c.stands.others.own;
      privileges = c.stands.others.privileges;
      lives = c.stands.others.lives;
      pages = λ d real. sym (pages_are n (told_word v) h sound empty x.frames d c.frames real);
      free = λ f inside.
          let bits = sound.map.bits f inside in
          let none = none_of n h (λ u. times f u.raised) (no_raised f) empty in
          same_bit (is_hinted (told_word v) f) (is_free (told_word v (Refs f))) (let k : bit (is_hinted (told_word v) f) ≡ bit (is_free (told_word v (Refs f))) = omega arith in k);
    }

-- ---- other words that tell the same but for that one
off_run : (s k : ℕ) → IsShownWord k → Vcpu s k ≡ run_of s → ⊥
off_run s k (shown.base low) e = let six : k ≡ 6 = cc in absurd (omega arith)
off_run s k (shown.tables some most) e = let six : k ≡ 6 = cc in absurd (omega arith)

off_below : (s k : ℕ) → k < 6 → Vcpu s k ≡ run_of s → ⊥
off_below s k low e = let six : k ≡ 6 = cc in absurd (omega arith)

shows_same : (n : Machine) (s : ℕ) (m w : Words) (x : Solo) → ((q : Place) → q ≢ run_of s → w q ≡ m q) → Shows n s m x → Shows n s w x
shows_same n s m w x same a =
    record {
      frames = record {
        shares = λ g inside. a.frames.shares g inside ∙ ap share_of (sym (same (Refs g) (λ e. cc)));
        kinds = λ g inside. a.frames.kinds g inside ∙ ap (λ y. sober (kind_fields y)) (sym (same (Kind g) (λ e. cc)));
        cells = λ g i inside low. a.frames.cells g i inside low ∙ sym (same (Cell g i) (λ e. cc));
      };
      maps = λ f inside. a.maps f inside ∙ sym (same (M2p f) (λ e. cc));
      own = λ k is. a.own k is ∙ sym (same (Vcpu s k) (off_run s k is));
      privileges = λ d real. a.privileges d real ∙ sym (same (Priv d) (λ e. cc));
      lives = λ d real. a.lives d real ∙ sym (same (Life d) (λ e. cc));
      pages = λ d real. a.pages d real ∙ sym (same (Pages d) (λ e. cc));
      free = λ f inside. ap (λ y. is_bit (f % 64) y) (same (Map (f / 64)) (λ e. cc)) ∙ a.free f inside ∙ ap is_free (sym (same (Refs f) (λ e. cc)));
    }

pub stop_shows : (v w : PortValue) (x : Solo) → Clean v x → IsStop v w → IsStoppedAt w x
unfolding left_by
stop_shows v w x c stop =
    let m = stop.1 in
    let post = came_post v w (moves_came v w _ _ _ _ _ m) in
    let other = told_elsewhere v w (run_of v.post.vcpu) (Store 1) kinds.Run None stop.0 m in
    record {
      shows = subst (λ (p : Post). Shows p.machine p.vcpu (told_word w) x) (sym post) (shows_same v.post.machine v.post.vcpu (told_word v) (told_word w) x other (clean_shows v x c));
      first = subst (λ (p : Post). told_word w (old_place p.vcpu First) ≡ 0) (sym post) (other (old_place v.post.vcpu First) (off_below v.post.vcpu 2 (omega arith)) ∙ c.first);
      second = subst (λ (p : Post). told_word w (old_place p.vcpu Second) ≡ 0) (sym post) (other (old_place v.post.vcpu Second) (off_below v.post.vcpu 3 (omega arith)) ∙ c.stands.second);
      stopped = subst (λ (p : Post). told_word w (run_of p.vcpu) ≡ 1) (sym post) (told_here v w (run_of v.post.vcpu) (Store 1) kinds.Run None stop.0 m (alone_telling v c.stands.alone));
    }
