-- A whole release leaves what the plain one leaves.
use Rattle.std.proofs.Common.{◌≡◌, ℕ, suc, ◌-◌, ◌<◌, ◌≤◌, ◌^◌, ◌==◌, Option, Bool, true, false, List, [], ◌∷◌, None, Result, Ok, Err, IfOk, refl, sym, ap, ◌∙◌, subst, arith}
use Rattle.xp_words.specs.KindWords.{kind_fields}
use Rattle.xp_words.specs.Machine.{Machine}
use Rattle.xp_words.specs.PageTypes.{is_table}
use Rattle.xp_words.specs.declared.place.Place.TheVariants.{Kind, Refs}
use Rattle.xp_words.specs.declared.reply.Stop.{Stop}
use Rattle.xp_board.specs.RefSteps.{one_down}
use Rattle.xp_board.specs.Told.{PortValue, is_telling, told_word}
use Rattle.xp_board.specs.declared.step.Act.TheVariants.{Add, Load}
use Rattle.xp_board.specs.declared.step.StepKind.TheVariants as kinds
use Rattle.table_twins.proofs.Entering.{described_leaves}
use Rattle.step_maker.specs.Moves.{Moves}
use Rattle.step_maker.specs.Plain.{Leaves, Words}
use Rattle.step_maker.proofs.Telling.{leaves, load_tells, moves_telling, told_there}
use Rattle.frame_words.specs.Plain.{put}
use Rattle.frame_types.specs.Lowering.{DropsType}
use Rattle.partial_state.specs.Levels.{level_type}
use Rattle.partial_state.proofs.LevelFacts.{level_type-apart}
use Rattle.table_entries.specs.Acquiring.{GaveRef, GaveType}
use Rattle.table_releases.specs.Plain.{lowered_type}
use Rattle.table_law.specs.Levels.{closed}
use Rattle.table_law.specs.Plain.{Describes, Plain, with_kind}
use Rattle.table_law.specs.Release.{drop_first, emptying, entries_held, let_go}
use Rattle.table_law.proofs.Undoing.{opened}
use Rattle.level_release.specs.Course as course
use Rattle.level_release.specs.Course.{Emptied, WasReleased, closing_table}
use Rattle.release_laws.proofs.Dropping.{live_all, live_closing, live_last, more_given, plain_given, live_unmarked}
use Rattle.release_laws.proofs.Entries.{plain_level, table_level}
use Rattle.table_law.proofs.Counting.{at_here}
use Rattle.release_laws.specs.Pauses as pauses
use Rattle.release_laws.specs.Pauses.{IsLeft, ReleasedAtLast}
use Rattle.release_laws.proofs.Settling.{SettledTo, goes_on, paused_to, settled_at_last}
use Rattle.xp_words.specs.declared.reply.Pause.TheVariants.{Due}
use Rattle.xp_words.specs.declared.reply.Stop.TheVariants.{Paused}
use Rattle.release_laws.proofs.Liking.{IsSpent, emptying_spent}
use Rattle.release_laws.proofs.Running.{Leads, at_level, given_back, ran_leads}
use Rattle.release_laws.proofs.Seen.{drops_seen, kinded_counted, put_seen}

module _ (v : PortValue) (f level : ℕ) (p : Plain) (telling : is_telling v ≡ true) (inside : f < v.post.machine.frames) (d : Describes v.post.machine (told_word v) p) where
  abbrev n : Machine
  n = v.post.machine

  abbrev Left : PortValue → Type 0
  Left w = Describes n (told_word w) (let_go level f p)

  -- a frame without entries
  plain_left : (w : PortValue) → is_table (level_type level) ≡ false → GaveType v w f (level_type level) → Left w
  plain_left w off a =
      let s = drops_seen v w f (level_type level) telling a.found in
      described_leaves n w _ _ (a.plain telling) (plain_given n (told_word v) p level f d inside (a.stands telling).1 s.0.small s.0.some (plain_level level off) s.1.some)

  -- ---- a table: its type count goes down
  module _ (u : PortValue) (last : Bool) (a : DropsType v u f last) where
    abbrev step : Moves v u (Kind f) (Add one_down) kinds.Kind None a.found
    step = a.lowers.step

    there : told_word v (Kind f) ≡ a.found
    there = told_there v u (Kind f) (Add one_down) kinds.Kind None a.found a.lowers.step telling

    live : (kind_fields (told_word v (Kind f))).validated ≡ true
    live = subst (λ y. (kind_fields y).validated ≡ true) (sym there) a.lowers.live

    small : told_word v (Kind f) < 2 ^ 64
    small = let finds = a.lowers.step.finds in subst (λ y. y < 2 ^ 64) (finds.word ∙ sym there) (finds.sound.spelled.small (Kind f))

    some : 0 < (kind_fields (told_word v (Kind f))).number
    some = subst (λ y. 0 < (kind_fields y).number) (sym there) a.lowers.counted

    count : ((kind_fields (told_word v (Kind f))).number == 1) ≡ last
    count = ap (λ y. (kind_fields y).number == 1) there ∙ sym a.counts

    words : told_word u ≡ lowered_type f (told_word v)
    words = λ i q. leaves v u (Kind f) (Add one_down) kinds.Kind None a.found a.lowers.step telling q i

    on : is_telling u ≡ true
    on = moves_telling v u (Kind f) (Add one_down) kinds.Kind None a.found a.lowers.step ∙ telling

  -- others are left
  shared_left : (u w : PortValue) → DropsType v u f false → GaveRef u w f → Left w
  shared_left u w a b =
      let c = kinded_counted v u (Add one_down) kinds.Kind None a.found f telling a.lowers.step (λ still. put_seen u w f still b.found) in
      described_leaves n w _ _ (subst (λ (m : Words). Leaves w (put f m)) (words u false a) (b.plain (on u false a)))
      (more_given n (told_word v) p level f d inside (live u false a) (small u false a) (some u false a) (count u false a) c.some)

  -- none is: the entries are given back
  module _ (u x : PortValue) (word : ℕ) (table : is_table (level_type level) ≡ true) (low : level ≤ 4) (a : DropsType v u f true) (look : Moves u x (Refs f) Load kinds.Look None word) where
    inner : Plain
    inner = with_kind f (emptying (p.kinds f)) p

    begins : Leads n x (closing_table f level ∷ []) (let_go level f p)
    unfolding inner given_back
    begins =
        let high = table_level level table in
        let l = level - 1 in
        let is : suc l ≡ level = omega arith in
        let words_x : told_word x ≡ lowered_type f (told_word v) = (λ i q. load_tells u x (Refs f) kinds.Look None word look (on u true a) q i) ∙ words u true a in
        let all = live_all n (told_word v) p level f d inside (live u true a) (small u true a) (some u true a) (count u true a) in
        let one = live_last n (told_word v) p level f d inside (live u true a) (small u true a) (some u true a) (count u true a) in
        record {
          machine = ap (λ (y : PortValue). y.post.machine) look.to ∙ ap (λ (y : PortValue). y.post.machine) a.lowers.step.to;
          telling = moves_telling u x (Refs f) Load kinds.Look None word look ∙ on u true a;
          tables = (high, low, omega arith, inside, tt);
          plain = with_kind f (emptying (p.kinds f)) p;
          spent = (subst IsSpent (sym (at_here f (emptying (p.kinds f)) p.kinds)) (emptying_spent (p.kinds f)), (λ off. off), tt);
          under = tt;
          describes = subst (λ m. Describes n m (with_kind f (emptying (p.kinds f)) p)) (sym words_x) (live_closing n (told_word v) p level f d inside (live u true a) (small u true a) (some u true a) (count u true a));
          left = at_level (closing_table f level) [] l (with_kind f (emptying (p.kinds f)) p) (sym is)
              ∙ ap (λ k. closed f (level_type (suc l)) (drop_first (let_go l) (level_type (suc l)) f k (with_kind f (emptying (p.kinds f)) p))) (let e : 512 - 0 ≡ entries_held (p.kinds f) = omega arith in e)
              ∙ sym (opened l f p one (live_unmarked n (told_word v) p level f d inside (live u true a) (small u true a) (some u true a))) ∙ ap (λ j. let_go j f p) is;
        }

    ended : (w : PortValue) → Leads n w [] (let_go level f p) → Left w
    unfolding given_back
    ended w e = subst (Describes n (told_word w)) e.left e.describes

    emptied_left : {below : Option ℕ} → (w : PortValue) (answers : List Bool) (answer : Result (Unit {0}) Stop) → Emptied below x (closing_table f level) w answers answer → IfOk answer (λ done. Left w)
    emptied_left _ _ _ (course.finished w answers ran) = ended w (ran_leads n (let_go level f p) x (closing_table f level ∷ []) w [] answers (Ok tt) ran begins)
    emptied_left _ _ _ (course.paused y w us answers stop ran unwound) = tt

    -- or it is paused
    abbrev IsPausedTo : PortValue → Result (Unit {0}) Stop → Type 0
    IsPausedTo w (Ok done) = Unit {0}
    IsPausedTo w (Err e) = SettledTo n w f level (let_go level f p) (Err e)

    emptied_paused : {below : Option ℕ} → (w : PortValue) (answers : List Bool) (answer : Result (Unit {0}) Stop) → Emptied below x (closing_table f level) w answers answer → IsPausedTo w answer
    emptied_paused _ _ _ (course.finished w answers ran) = tt
    emptied_paused _ _ _ (course.paused y w us answers stop ran unwound) = paused_to n (let_go level f p) f level x (closing_table f level) y us w answers stop ran (refl, refl) begins unwound

  abbrev PausedTo : PortValue → Result (Unit {0}) Stop → Type 0
  PausedTo w (Ok done) = Unit {0}
  PausedTo w (Err e) = SettledTo n w f level (let_go level f p) (Err e)

  paused_by : level ≤ 4 → (w : PortValue) (answers : List Bool) (answer : Result (Unit {0}) Stop) → WasReleased v f (level_type level) w answers answer → PausedTo w answer
  paused_by low _ _ _ (course.plain w off a) = tt
  paused_by low _ _ _ (course.shared u w table a b) = tt
  paused_by low _ _ _ (course.last u x w word k answers answer table same few a look e) =
      emptied_paused u x word table low a look w answers answer (subst (λ j. Emptied None x (closing_table f j) w answers answer) (level_type-apart k level few low same) e)

  released : level ≤ 4 → (w : PortValue) (answers : List Bool) (answer : Result (Unit {0}) Stop) → WasReleased v f (level_type level) w answers answer → IfOk answer (λ done. Left w)
  released low _ _ _ (course.plain w off a) = plain_left w off a
  released low _ _ _ (course.shared u w table a b) = shared_left u w a b
  released low _ _ _ (course.last u x w word k answers answer table same few a look e) =
      emptied_left u x word table low a look w answers answer (subst (λ j. Emptied None x (closing_table f j) w answers answer) (level_type-apart k level few low same) e)

pub leaves_plain : (v w : PortValue) (f level : ℕ) (answers : List Bool) (p : Plain) → is_telling v ≡ true → f < v.post.machine.frames → level ≤ 4 → Describes v.post.machine (told_word v) p →
    WasReleased v f (level_type level) w answers (Ok tt) → Describes v.post.machine (told_word w) (let_go level f p)
leaves_plain v w f level answers p telling inside low d a = released v f level p telling inside d low w answers (Ok tt) a

pub leaves_rest : (v w : PortValue) (f level : ℕ) (answers : List Bool) (p : Plain) → is_telling v ≡ true → f < v.post.machine.frames → level ≤ 4 → Describes v.post.machine (told_word v) p →
    WasReleased v f (level_type level) w answers (Err (Paused Due)) → IsLeft v.post.machine w f level (let_go level f p)
leaves_rest v w f level answers p telling inside low d a = paused_by v f level p telling inside d low w answers (Err (Paused Due)) a

pub released_at_last : (v w : PortValue) (f level : ℕ) (p : Plain) → is_telling v ≡ true → f < v.post.machine.frames → level ≤ 4 → Describes v.post.machine (told_word v) p → ReleasedAtLast v f level w → Describes v.post.machine (told_word w) (let_go level f p)
released_at_last v _ f level p telling inside low d (pauses.at_once w answers a) = leaves_plain v w f level answers p telling inside low d a
released_at_last v _ f level p telling inside low d (pauses.later u x w answers a on rest) =
    settled_at_last v.post.machine f level (let_go level f p) x w (goes_on v.post.machine u x f level (let_go level f p) on (leaves_rest v u f level answers p telling inside low d a)) rest
