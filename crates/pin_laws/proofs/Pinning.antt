-- Whole pins by the only vCPU.
use Rattle.std.proofs.Common.{◌≡◌, ℕ, ◌≤◌, Bool, true, List, [], length, Result, Ok, Err, IfErr, sym, ap, ◌∙◌, subst}
use Rattle.xp_words.specs.Machine.{IsMachine, Machine}
use Rattle.xp_words.specs.declared.place.Place.TheVariants.{Kind}
use Rattle.xp_words.specs.declared.reply.Stop.{Stop}
use Rattle.xp_board.specs.Lawful.{Lawful}
use Rattle.xp_board.specs.Told.{Post, PortValue, is_telling, told_word}
use Rattle.xp_preempt.specs.Gates.{yeses}
use Rattle.step_maker.specs.Moves.{Came}
use Rattle.step_maker.specs.Plain.{Words}
use Rattle.step_maker.proofs.Coming.{came_post, came_self, came_trans, met_after, met_before}
use Rattle.step_maker.proofs.Telling.{came_telling}
use Rattle.answer_laws.specs.Alone.{IsAlone}
use Rattle.answer_laws.proofs.Shared.{alone_telling}
use Rattle.partial_state.specs.Levels.{level_type}
use Rattle.table_law.specs.Lawful.{IsAtRest}
use Rattle.table_entries.specs.Acquiring.{Acquired, GaveRef, GotRef, unreferred}
use Rattle.mmuext_ops.specs.Course.{IsPinnedAs, PinEnds, Pinned, SawKind, acquired, pinned_before, refused, unreferred as unreferred_pin}
use Rattle.course_laws.specs.Courses.{ClockGoesOn, IsDecided, IsFinal, IsHad}
use Rattle.course_laws.proofs.Awaiting.{AloneStays, alone_orderly}
use Rattle.course_laws.proofs.Stopping.{acquired_came}
use Rattle.pin_laws.proofs.Ending.{ends_done, ends_final}
use Rattle.pin_laws.proofs.Looking.{back_came, seen_word, words_back}
use Rattle.pin_laws.proofs.Unpinned.{had_unpinned}

pub goes_between : (v c e w : PortValue) → Came v c → Came e w → ClockGoesOn v w → ClockGoesOn c e
goes_between v c e w before after goes m met at = goes m (met_after v c w m before (met_before c e w m met after)) at

-- ---- what is known of acquisitions
abbrev pub AcquisitionDecided : Type 0
AcquisitionDecided =
    (v w : PortValue) (f owner level : ℕ) (answers : List Bool) (answer : Result ℕ Stop) → IsAlone v → length v.post.machine.vcpu_domain ≡ 1 → Acquired v f owner level w answers answer → yeses answers ≡ 0 → ClockGoesOn v w → IsDecided answer

abbrev pub HadWhereLawful : Type 0
HadWhereLawful =
    (v w : PortValue) (f owner level : ℕ) (answers : List Bool) (answer : Result ℕ Stop) → IsAlone v → length v.post.machine.vcpu_domain ≡ 1 → IsAtRest v.post.machine (told_word v) → 1 ≤ level → level ≤ 4 →
    Acquired v f owner level w answers answer → yeses answers ≡ 0 → ClockGoesOn v w →
    (Lawful v.post.machine owner (told_word v) f (level_type level) → IsHad answer) × (IsHad answer → Lawful v.post.machine owner (told_word v) f (level_type level))

module _ (stays : AloneStays) (v w : PortValue) (d f level : ℕ) (alone : IsAlone v) (one : length v.post.machine.vcpu_domain ≡ 1) (goes : ClockGoesOn v w) where
  telling : is_telling v ≡ true
  telling = alone_telling v alone

  machine : IsMachine v.post.machine
  machine = alone.state.sound.machine

  module _ (a b c : PortValue) (x : ℕ) (ref : GotRef v a f d (Ok f)) (saw : SawKind a b f x) (gave : GaveRef b c f) where
    came : Came v c
    came = back_came v a b d f x machine telling ref saw c gave

    alone_there : IsAlone c
    alone_there = stays v c alone came

    one_there : length c.post.machine.vcpu_domain ≡ 1
    one_there = ap (λ (q : Post). length q.machine.vcpu_domain) (came_post v c came) ∙ one

    goes_there : (e : PortValue) → Came e w → ClockGoesOn c e
    goes_there e after = goes_between v c e w came after goes

  -- ---- it is decided
  module _ (decided : AcquisitionDecided) where
    pub pin_decided : (answers : List Bool) (answer : Result (Unit {0}) Stop) → Pinned v w d f level answers answer → yeses answers ≡ 0 → IfErr answer (λ e. IsFinal e)
    pin_decided _ _ (unreferred_pin stop ref) none = decided v w f d level [] (Err stop) alone one (unreferred w stop ref) none goes
    pin_decided _ _ (pinned_before a b x ref saw gave same) none = tt
    pin_decided _ _ (refused a b c x answers stop ref saw gave other acquisition) none =
        decided c w f d level answers (Err stop) (alone_there a b c x ref saw gave) (one_there a b c x ref saw gave) acquisition none (goes_there a b c x ref saw gave w (came_self w))
    pin_decided _ _ (acquired a b c e x answers answer ref saw gave other acquisition ends) none =
        ends_final e w f level (came_telling v e (came_trans v c e (came a b c x ref saw gave) (acquired_came c f d level e answers _ acquisition)) ∙ telling) answer ends

  -- ---- where it is done
  module _ (law : HadWhereLawful) (calm : IsAtRest v.post.machine (told_word v)) (low : 1 ≤ level) (high : level ≤ 4) (free : IsPinnedAs level (told_word v (Kind f)) → ⊥) where
    abbrev Tree : Machine → Words → Type 0
    Tree n m = Lawful n d m f (level_type level)

    module _ (a b c : PortValue) (x : ℕ) (ref : GotRef v a f d (Ok f)) (saw : SawKind a b f x) (gave : GaveRef b c f) where
      words : told_word c ≡ told_word v
      words = words_back v a b d f x machine telling ref saw c gave

      same_machine : c.post.machine ≡ v.post.machine
      same_machine = ap (λ (q : Post). q.machine) (came_post v c (came a b c x ref saw gave))

      there : (P : Machine → Words → Type 0) → P v.post.machine (told_word v) → P c.post.machine (told_word c)
      there P is = subst (λ n. P n (told_word c)) (sym same_machine) (subst (P v.post.machine) (sym words) is)

      here : (P : Machine → Words → Type 0) → P c.post.machine (told_word c) → P v.post.machine (told_word v)
      here P is = subst (P v.post.machine) words (subst (λ n. P n (told_word c)) same_machine is)

      law_there : (e : PortValue) (answers : List Bool) (answer : Result ℕ Stop) → Acquired c f d level e answers answer → yeses answers ≡ 0 → Came e w →
          (Tree v.post.machine (told_word v) → IsHad answer) × (IsHad answer → Tree v.post.machine (told_word v))
      law_there e answers answer acquisition none after =
          let l = law c e f d level answers answer (alone_there a b c x ref saw gave) (one_there a b c x ref saw gave) (there IsAtRest calm) low high acquisition none (goes_there a b c x ref saw gave e after) in
          (λ tree. l.0 (there Tree tree), λ had. here Tree (l.1 had))

      done_there : (e : PortValue) (answers : List Bool) (answer : Result (Unit {0}) Stop) → Acquired c f d level e answers (Ok f) → PinEnds e w f level answer → (answer ≡ Ok tt) × Came e w
      done_there e answers answer acquisition ends =
          let alone_c = alone_there a b c x ref saw gave in
          let telling_c = alone_telling c alone_c in
          let unpinned = had_unpinned c d f level alone_c.state.sound.machine telling_c (there IsAtRest calm) (alone_orderly c alone_c) low (λ same. free (here (λ n m. IsPinnedAs level (m (Kind f))) same)) e answers (Ok f) acquisition in
          ends_done e w f level (came_telling c e (acquired_came c f d level e answers _ acquisition) ∙ telling_c) unpinned answer ends

    pub done_where_lawful : (answers : List Bool) (answer : Result (Unit {0}) Stop) → Pinned v w d f level answers answer → yeses answers ≡ 0 →
        (Lawful v.post.machine d (told_word v) f (level_type level) → answer ≡ Ok tt) × (answer ≡ Ok tt → Lawful v.post.machine d (told_word v) f (level_type level))
    done_where_lawful _ _ (unreferred_pin stop ref) none =
        let l = law v w f d level [] (Err stop) alone one calm low high (unreferred w stop ref) none goes in
        (λ tree. absurd (l.0 tree), λ done. absurd cc)
    done_where_lawful _ _ (pinned_before a b x ref saw gave same) none = absurd (free (subst (IsPinnedAs level) (seen_word v a b d f x machine telling ref saw) same))
    done_where_lawful _ _ (refused a b c x answers stop ref saw gave other acquisition) none =
        let l = law_there a b c x ref saw gave w answers (Err stop) acquisition none (came_self w) in
        (λ tree. absurd (l.0 tree), λ done. absurd cc)
    done_where_lawful _ _ (acquired a b c e x answers answer ref saw gave other acquisition ends) none =
        let done = done_there a b c x ref saw gave e answers answer acquisition ends in
        let l = law_there a b c x ref saw gave e answers (Ok f) acquisition none done.1 in
        (λ tree. done.0, λ ok. l.1 tt)
