-- The relations go along steps that change stamps, the clock and the words of flushes alone.
use Rattle.std.proofs.Common.{◌≡◌, ◌≢◌, ℕ, true, refl, sym, ap, ◌∙◌, subst, arith}
use Rattle.xp_words.specs.Machine.{Machine}
use Rattle.xp_words.specs.declared.place.Place.TheVariants.{Life, M2p, Priv, Vcpu}
use Rattle.xp_board.specs.Told.{Post, PortValue, is_telling, told_word}
use Rattle.step_maker.specs.Plain.{Words}
use Rattle.step_maker.specs.Twins.{Alike}
use Rattle.step_maker.proofs.Alikes.{alike_trans, same_alike}
use Rattle.step_maker.proofs.Coming.{came_post}
use Rattle.step_maker.proofs.Telling.{came_telling}
use Rattle.answer_laws.proofs.Shared.{alone_telling}
use Rattle.course_laws.proofs.Awaiting.{AloneStays}
use Rattle.release_laws.specs.Pauses.{GoesOnFrom, IsLeft}
use Rattle.release_laws.proofs.Settling.{goes_on}
use Rattle.refusal_laws.specs.Repeated.{FollowsOn, PausedCalls}
use Rattle.refusal_laws.specs.Repeated as repeated
use Rattle.table_words.specs.OldWords.{old_place}
use Rattle.table_words.specs.declared.old_words.OldWord.TheVariants.{First, Second}
use Rattle.table_law.specs.Plain.{Describes}
use Rattle.table_twins.proofs.Kinding.{described_alike}
use Rattle.script_law.specs.Shown.{IsShownWord}
use Rattle.script_law.specs.Shown as shown
use Rattle.script_law.specs.Values.{Solo}
use Rattle.solo_ports.specs.Standing.{Clean, KeepsTable, Owes, ShowsOthers, Stands, StaysAlike}
use Rattle.solo_ports.specs.Standing as standing
use Rattle.solo_ports.proofs.Staying.{stands_at}

pub off_flushes : (k : ℕ) → IsShownWord k → (k ≢ 4) × (k ≢ 5)
off_flushes k (shown.base low) = (λ e. absurd (omega (arith, low)), λ e. absurd (omega (arith, low)))
off_flushes k (shown.tables some most) = (λ e. absurd (omega (arith, some)), λ e. absurd (omega (arith, some)))

others_on : (n : Machine) (s : ℕ) (m l : Words) (x : Solo) → Alike l m → ShowsOthers n s m x → ShowsOthers n s l x
others_on n s m l x alike o =
    record {
      maps = λ f inside. o.maps f inside ∙ sym (alike (M2p f));
      own = λ k is. o.own k is ∙ sym (alike (Vcpu s k) (off_flushes k is).0 (off_flushes k is).1);
      privileges = λ d real. o.privileges d real ∙ sym (alike (Priv d));
      lives = λ d real. o.lives d real ∙ sym (alike (Life d));
    }

module _ (stays : AloneStays) (v w : PortValue) (x : Solo) (on : StaysAlike v w) where
  post : w.post ≡ v.post
  post = came_post v w on.came

  pub stands_on : Stands v x → Stands w x
  stands_on s =
      stands_at stays v w x x s on.came on.empty (on.words (old_place v.post.vcpu Second) (λ e. absurd (omega arith)) (λ e. absurd (omega arith)) ∙ s.second)
      (others_on v.post.machine v.post.vcpu (told_word v) (told_word w) x on.words s.others) s.unkept

  first_on : told_word v (old_place v.post.vcpu First) ≡ 0 → told_word w (old_place w.post.vcpu First) ≡ 0
  first_on e = subst (λ (p : Post). told_word w (old_place p.vcpu First) ≡ 0) (sym post) (on.words (old_place v.post.vcpu First) (λ a. absurd (omega arith)) (λ a. absurd (omega arith)) ∙ e)

  pub clean_on : Clean v x → Clean w x
  clean_on c =
      record {
        stands = stands_on c.stands;
        first = first_on c.first;
        frames = subst (λ (p : Post). Describes p.machine (told_word w) x.frames) (sym post) (described_alike v.post.machine (told_word w) (told_word v) x.frames on.words c.frames);
      }

  goes_from : Stands v x → GoesOnFrom v w
  goes_from s = record { post = post; telling = came_telling v w on.came ∙ alone_telling v s.alone; words = on.words }

  pub owes_on : Owes v x → Owes w x
  owes_on (standing.nothing c) = standing.nothing (clean_on c)
  owes_on (standing.a_release f level s left) =
      standing.a_release f level (stands_on s)
      (subst (λ (p : Post). IsLeft p.machine w f level x.frames) (sym post) (goes_on v.post.machine v w f level x.frames (goes_from s) left))

-- ---- calls that were paused
goes_trans : (u v w : PortValue) → FollowsOn u v → Alike (told_word w) (told_word v) → w.post ≡ v.post → is_telling w ≡ true → FollowsOn u w
goes_trans u v w a alike post telling =
    record {
      stays = record { machine = ap (λ (p : Post). p.machine) post ∙ a.stays.machine; telling = telling; words = alike_trans (told_word w) (told_word v) (told_word u) alike a.stays.words };
      vcpu = ap (λ (p : Post). p.vcpu) post ∙ a.vcpu;
    }

pub paused_on : (f owner level : ℕ) (u v w : PortValue) → PausedCalls f owner level u v → Alike (told_word w) (told_word v) → w.post ≡ v.post → is_telling w ≡ true → PausedCalls f owner level u w
paused_on f owner level u _ w (repeated.first x v answers told a finds on) alike post telling = repeated.first x w answers told a finds (goes_trans x v w on alike post telling)
paused_on f owner level u _ w (repeated.again y x v answers before a finds on) alike post telling = repeated.again y x w answers before a finds (goes_trans x v w on alike post telling)

pub keeps_on : AloneStays → (f owner level : ℕ) (v w : PortValue) (x : Solo) → StaysAlike v w → KeepsTable f owner level v x → KeepsTable f owner level w x
keeps_on stays f owner level v w x on k =
    let machine : w.post.machine ≡ v.post.machine = ap (λ (p : Post). p.machine) (came_post v w on.came) in
    record {
      stands = stands_on stays v w x on k.stands;
      first = first_on stays v w x on k.first;
      from = k.from;
      machine = k.machine ∙ sym machine;
      rest = k.rest;
      orderly = k.orderly;
      frames = k.frames;
      calls = paused_on f owner level k.from v w k.calls on.words (came_post v w on.came) (came_telling v w on.came ∙ alone_telling v k.stands.alone);
    }

-- a port follows on itself
pub follows_itself : (w : PortValue) → is_telling w ≡ true → FollowsOn w w
follows_itself w telling = record { stays = record { machine = refl; telling = telling; words = same_alike (told_word w) (told_word w) (λ q. refl) }; vcpu = refl }
