-- Two runs that come to the same answers and the same value have one report.
use Rattle.std.proofs.Common.{◌≡◌, ℕ, zero, suc, ◌<◌, false, is_none, List, [], ◌∷◌, length, Option, Some, None, IsTrue, refl, sym, ap, ◌∙◌, arith}
use Rattle.std.specs.Prelude.{map}
use Rattle.std.proofs.lemmas.Bool.Decides.{nat_tests}
use Rattle.xp_words.specs.KindWords.{kind_fields, kind_read, kind_write}
use Rattle.xp_words.specs.Machine.{Machine}
use Rattle.xp_words.specs.Places.{is_place, memory, sizes_of}
use Rattle.xp_words.specs.RefWords.{ref_read}
use Rattle.xp_words.specs.declared.kind.KindWord.{KindWord}
use Rattle.xp_words.specs.declared.ops.Op.{Op}
use Rattle.xp_words.specs.declared.place.Place.TheVariants.{Kind, M2p, Refs, Vcpu}
use Rattle.xp_words.specs.declared.refs.RefWord.{RefWord}
use Rattle.xp_words.specs.declared.refs.RefWord.TheVariants.{Dying, Free, Owned}
use Rattle.xp_board.specs.Hands.{empty}
use Rattle.xp_board.specs.Readings.{is_free, is_free_in}
use Rattle.xp_board.specs.Sound.{SoundWords}
use Rattle.xp_board.specs.Spelling.{IsSpelling, is_kind_in}
use Rattle.xp_preempt.specs.Gates.{Gate}
use Rattle.report_text.specs.ReportOf.{form_text, frame_by, is_free_ref, is_free_word, report_of}
use Rattle.table_law.specs.Plain.{Share, share_of, sober}
use Rattle.trace_text.specs.declared.trace.Trace.{Trace}
use Rattle.trace_text.specs.declared.trace.TurnRun.{TurnRun}
use Rattle.vcpu_runners.specs.Turns.{Processing, pending_of}
use Rattle.xp_machine.specs.Ran.{log_of, report_at}
use Rattle.xp_machine.specs.Turns.{Stage}
use Rattle.script_law.specs.Shown as shown
use Rattle.script_law.specs.Values.{Solo}
use Rattle.solo_memory.proofs.Sounding.{free_is}
use Rattle.solo_runs.specs.Finishing.{ComeToTheSame, FinishesAlone, with_turns}
use Rattle.solo_runs.proofs.Closing.{all_answered, closing_cpus}
use Rattle.solo_runs.proofs.Printing.{form_same}
use Rattle.solo_runs.proofs.Lines.{logs_same, spelled}
use Rattle.solo_runs.proofs.Opening.{none_in_hand}
use Rattle.solo_runs.proofs.Reading.{ReadsAlike, logs_alike, reports_same}

-- ---- places of a machine
module _ (n : Machine) where
  pub real_kind : (f : ℕ) → f < n.frames → IsTrue (is_place (sizes_of n) (Kind f))
  unfolding is_place
  real_kind f less = grind (arith, nat_tests)

-- ---- sound words
free_alike : (r : Option RefWord) → is_free_ref r ≡ is_free_in r
free_alike None = refl
free_alike (Some (Free stamp)) = refl
free_alike (Some (Owned owner allocated count)) = refl
free_alike (Some (Dying owner)) = refl

free_of : (w : ℕ) → is_free w ≡ is_none (share_of w) → is_free_word w ≡ is_none (share_of w)
unfolding is_free_word is_free
free_of w is = free_alike (ref_read w) ∙ is

read_by : (n : Machine) (o : Option KindWord) → IsTrue (is_kind_in n o) → (k : KindWord) × (o ≡ Some k)
read_by n None is = absurd cc
read_by n (Some k) is = (k, refl)

module _ (n : Machine) (words : List ℕ) (only : length n.vcpu_domain ≡ 1) (sound : SoundWords n words) where
  free_here : (f : ℕ) → f < n.frames → is_free_word (memory (sizes_of n) words (Refs f)) ≡ is_none (share_of (memory (sizes_of n) words (Refs f)))
  free_here f less = free_of (memory (sizes_of n) words (Refs f)) (free_is n (memory (sizes_of n) words) (λ s. empty) sound.sound (λ s real. none_in_hand) f less)

  kind_here : (f : ℕ) → f < n.frames → (k : KindWord) × (kind_read (memory (sizes_of n) words (Kind f)) ≡ Some k)
  unfolding IsSpelling
  kind_here f less = read_by n (kind_read (memory (sizes_of n) words (Kind f))) (sound.sound.spelled.spelled (Kind f) (real_kind n f less))

  -- a kind word prints as the value that the words show
  form_here : (f : ℕ) → f < n.frames → form_text (memory (sizes_of n) words (Kind f)) ≡ form_text (kind_write (sober (kind_fields (memory (sizes_of n) words (Kind f)))))
  form_here f less = let k = kind_here f less in sym (form_same (memory (sizes_of n) words (Kind f)) k.0 k.1)

-- ---- sound words that show one value are read alike
module _ (n : Machine) (a b : List ℕ) (x : Solo) (only : length n.vcpu_domain ≡ 1) (first : SoundWords n a) (second : SoundWords n b)
    (one : shown.Shows n 0 (memory (sizes_of n) a) x) (two : shown.Shows n 0 (memory (sizes_of n) b) x)
    (a0 : memory (sizes_of n) a (Vcpu 0 2) ≡ 0) (a1 : memory (sizes_of n) a (Vcpu 0 3) ≡ 0) (b0 : memory (sizes_of n) b (Vcpu 0 2) ≡ 0) (b1 : memory (sizes_of n) b (Vcpu 0 3) ≡ 0) where
  own_same : (k : ℕ) → k < 4 → memory (sizes_of n) a (Vcpu 0 k) ≡ memory (sizes_of n) b (Vcpu 0 k)
  own_same zero less = sym (one.own 0 (shown.base (omega arith))) ∙ two.own 0 (shown.base (omega arith))
  own_same (suc zero) less = sym (one.own 1 (shown.base (omega arith))) ∙ two.own 1 (shown.base (omega arith))
  own_same (suc (suc zero)) less = a0 ∙ sym b0
  own_same (suc (suc (suc zero))) less = a1 ∙ sym b1
  own_same (suc (suc (suc (suc k)))) less = absurd (omega arith)

  shares_same : (f : ℕ) → f < n.frames → share_of (memory (sizes_of n) a (Refs f)) ≡ share_of (memory (sizes_of n) b (Refs f))
  shares_same f less = sym (one.frames.shares f less) ∙ two.frames.shares f less

  kinds_same : (f : ℕ) → f < n.frames → form_text (memory (sizes_of n) a (Kind f)) ≡ form_text (memory (sizes_of n) b (Kind f))
  kinds_same f less =
      form_here n a only first f less ∙ (ap (λ k. form_text (kind_write k)) (sym (one.frames.kinds f less) ∙ two.frames.kinds f less) ∙ sym (form_here n b only second f less))

  -- an owned frame has the same reference word
  refs_by : (f : ℕ) → f < n.frames → (o : Option Share) → share_of (memory (sizes_of n) b (Refs f)) ≡ o → is_none o ≡ false → memory (sizes_of n) a (Refs f) ≡ memory (sizes_of n) b (Refs f)
  refs_by f less None is some = absurd cc
  refs_by f less (Some s) is some = spelled (memory (sizes_of n) a (Refs f)) s (shares_same f less ∙ is) ∙ sym (spelled (memory (sizes_of n) b (Refs f)) s is)

  line_same : (f : ℕ) → f < n.frames → is_free_word (memory (sizes_of n) b (Refs f)) ≡ false →
      frame_by f (memory (sizes_of n) a (Refs f)) (memory (sizes_of n) a (Kind f)) (memory (sizes_of n) a (M2p f)) ≡ frame_by f (memory (sizes_of n) b (Refs f)) (memory (sizes_of n) b (Kind f)) (memory (sizes_of n) b (M2p f))
  unfolding frame_by
  line_same f less used =
      let refs = refs_by f less (share_of (memory (sizes_of n) b (Refs f))) refl (sym (free_here n b only second f less) ∙ used) in
      let maps : memory (sizes_of n) a (M2p f) ≡ memory (sizes_of n) b (M2p f) = sym (one.maps f less) ∙ two.maps f less in
      rw refs (rw (kinds_same f less) (rw maps refl))

  pub words_alike : ReadsAlike n a b
  words_alike =
      record {
        only = only;
        own = own_same;
        lives = λ d less. sym (one.lives d less) ∙ two.lives d less;
        pages = λ d less. sym (one.pages d less) ∙ two.pages d less;
        free = λ f less. free_here n a only first f less ∙ (ap is_none (shares_same f less) ∙ sym (free_here n b only second f less));
        frames = line_same;
      }

-- ---- the report of a run
closing_report : (t : Trace) (gates : List Gate) (script : List Op) (closed : Stage) (last : Processing) → FinishesAlone t gates script closed last → report_at t.layout closed ≡ report_of t.layout closed.board.words (last.log ∷ []) (0 ∷ [])
closing_report t gates script closed last run =
    ap (λ cs. report_of t.layout closed.board.words (map log_of cs) (map pending_of cs)) (closing_cpus t gates script closed last run)
    ∙ ap (λ k. report_of t.layout closed.board.words (last.log ∷ []) (k ∷ [])) (all_answered t gates script closed last run)

pub one_report : (t : Trace) (us : List TurnRun) (gates others : List Gate) (script : List Op) (closed other : Stage) (last ends : Processing) → FinishesAlone t gates script closed last → FinishesAlone (with_turns us t) others script other ends →
    ComeToTheSame t closed last (with_turns us t) other ends → report_at t.layout closed ≡ report_at t.layout other
one_report t us gates others script closed other last ends run again same =
    let a = same.first.words in
    let b = same.second.words in
    let alike = words_alike t.layout closed.board.words other.board.words same.left run.only run.ran.sound again.ran.sound a.shows b.shows a.first a.second b.first b.second in
    closing_report t gates script closed last run
    ∙ (reports_same t.layout closed.board.words other.board.words alike (last.log ∷ []) (0 ∷ [])
    ∙ (logs_alike t.layout other.board.words run.only last.log ends.log (logs_same last.log ends.log same.answers same.first.log same.second.log)
    ∙ sym (closing_report (with_turns us t) others script other ends again)))
