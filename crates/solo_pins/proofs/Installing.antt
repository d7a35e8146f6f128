-- A base is stored, the own translations are flushed, and what the word named before is let go.
use Rattle.std.proofs.Common.{◌≡◌, ◌≢◌, ℕ, zero, suc, ◌<◌, ◌==◌, nat_le, if◌then◌else◌, Bool, true, false, List, [], ◌∷◌, Option, Some, None, Result, Ok, Err, IfErr, refl, sym, ap, ◌∙◌, subst, inl, inr, arith}
use Rattle.std.proofs.lemmas.Bool.Decides.{nat_tests}
use Rattle.std.proofs.lemmas.Bool.{cases_eq}
use Rattle.xp_words.specs.KindWords.{kind_fields}
use Rattle.xp_words.specs.Machine.{IsMachine, Machine}
use Rattle.xp_words.specs.Places.{sizes_of}
use Rattle.xp_words.specs.declared.place.Place.{Place}
use Rattle.xp_words.specs.declared.place.Place.TheVariants.{Cell, Clock, Kind, Refs, Vcpu}
use Rattle.xp_words.specs.declared.reply.Pause.TheVariants.{Due}
use Rattle.xp_words.specs.declared.reply.Stop.{Stop}
use Rattle.xp_words.specs.declared.reply.Stop.TheVariants.{Paused}
use Rattle.xp_board.specs.declared.step.Act.TheVariants.{Load, Store}
use Rattle.xp_board.specs.declared.step.StepKind.TheVariants as kinds
use Rattle.xp_board.specs.Lists.{Member}
use Rattle.xp_board.specs.Readings.{last_clock}
use Rattle.xp_board.specs.Spelling.{IsSpelling}
use Rattle.xp_board.specs.Told.{Post, PortValue, Story, is_telling, told_word, word_in}
use Rattle.step_maker.specs.Answers.{Serves, SetsM2p, SetsWord}
use Rattle.step_maker.specs.Asked.{Request}
use Rattle.step_maker.specs.Holds.{Rests}
use Rattle.step_maker.specs.Moves.{Came, Moment, Moves}
use Rattle.xp_board.proofs.Numbers.{vcpu_there}
use Rattle.level_release.specs.Course.{WasReleased}
use Rattle.xp_words.specs.declared.kind.PageType.TheVariants.{L4}
use Rattle.step_maker.proofs.Coming.{came_post, came_self, came_trans, moves_came}
use Rattle.step_maker.proofs.Piecing.{serves_came}
use Rattle.step_maker.proofs.Telling.{came_telling, told_elsewhere, told_there}
use Rattle.answer_laws.proofs.Shared.{alone_telling}
use Rattle.flush_words.specs.Flushing.{FlushesOwn}
use Rattle.flush_words.proofs.FlushTwin.{own_alike}
use Rattle.flush_words.proofs.Flushed.{own_came}
use Rattle.table_words.specs.OldWords.{old_place}
use Rattle.table_words.specs.declared.old_words.OldWord.TheVariants.{First}
use Rattle.table_bases.specs.declared.words.Base.{Base}
use Rattle.table_bases.specs.declared.words.Base.TheVariants.{Kernel, User}
use Rattle.table_bases.specs.Course.{FlushesBehind, Installed, ReleasesOld, flushed, spent}
use Rattle.table_bases.specs.Holding.{base_number, naming}
use Rattle.table_law.specs.Plain.{Describes, Plain, share_of, sober}
use Rattle.table_law.specs.Release.{let_go}
use Rattle.table_twins.proofs.Kinding.{described_alike}
use Rattle.course_laws.specs.Courses.{ClockGoesOn}
use Rattle.course_laws.proofs.Awaiting.{AloneStays}
use Rattle.release_laws.specs.Pauses.{IsLeft}
use Rattle.script_law.specs.Frames.{back_named, rename}
use Rattle.script_law.specs.Shown.{IsShownWord, base}
use Rattle.script_law.specs.Values.{Solo, put_at, with_frames}
use Rattle.solo_ports.specs.Standing.{Owes, ShowsOthers, Stands, a_release, nothing}
use Rattle.solo_ports.specs.Standing.{IsUnkept}
use Rattle.solo_ports.proofs.Staying.{life_stays, mapped_stays, own_stays, privilege_stays, stands_at, told_of}
use Rattle.solo_ports.proofs.Unkept.{unkept_let_go}
use Rattle.solo_ports.proofs.Between.{word_after, word_before}
use Rattle.turn_measures.proofs.Naming.{released_away}
use Rattle.solo_pins.proofs.Given.{PausedReleaseLeaves, ReleaseLeaves}
use Rattle.solo_pins.proofs.Stepping.{released_came}
use Rattle.solo_pins.proofs.Standing.{IsMild, second_there}

-- ---- the words of the two bases
pub low_number : (b : Base) → base_number b < 2
low_number Kernel = omega arith
low_number User = omega arith

-- one that names a frame names one of the machine
named_by : (n : Machine) (s k w g : ℕ) → k < 2 → IsSpelling n (Vcpu s k) w → w ≡ suc g → g < n.frames
unfolding IsSpelling
named_by n s zero w g low is e = let a = is.1 in let b : nat_le w n.frames ≡ true = a in grind (arith, nat_tests)
named_by n s (suc zero) w g low is e = let a = is.1 in let b : nat_le w n.frames ≡ true = a in grind (arith, nat_tests)
named_by n s (suc (suc k)) w g low is e = absurd (omega (arith, low))

-- ---- the flush
-- a look at the clock finds it below its last value, where it goes on
pub clock_below : (v u y w : PortValue) (x : ℕ) → Came v u → Came y w → ClockGoesOn v w → Moves u y Clock Load kinds.Look None x → x ≢ last_clock
clock_below v u y w x before after goes look =
    let m : Moment = record { place = Clock; act = Load; kind = kinds.Look; mark = None; found = x; hand = u.holdings } in
    goes m (record { from = u; to = y; before = before; moved = record { moves = look; hand = refl }; after = after }) refl

-- so it is a flush
pub flushes_so : (v u x w : PortValue) → Came v u → Came x w → ClockGoesOn v w → FlushesBehind u x → FlushesOwn u x (Ok tt)
flushes_so v u x w before after goes (flushed f) = f
flushes_so v u x w before after goes (spent y old look store) = absurd (clock_below v u y w last_clock before (came_trans y x w (moves_came y x _ _ _ _ _ store) after) goes look refl)

-- ---- the steps of a release
pub rel_came : (v w : PortValue) (word : ℕ) (more : List Bool) → ReleasesOld v w word more → Came v w
rel_came v w zero more rel = subst (Came v) (sym rel.0) (came_self v)
rel_came v w (suc g) more rel = released_came v g L4 w more rel.0 rel.1

-- ---- from where the new table is had
module _ (stays : AloneStays) (release : ReleaseLeaves) (paused : PausedReleaseLeaves) (v w : PortValue) (x : Solo) (which : Base) (new : Option ℕ) (stands : Stands v x) (first_v : told_word v (old_place v.post.vcpu First) ≡ 0)
    (goes : ClockGoesOn v w) (b : PortValue) (q : Plain) (came_b : Came v b) (describes_b : Describes v.post.machine (told_word b) q) (unkept : IsUnkept v.post.machine q)
    (first_b : told_word b (old_place v.post.vcpu First) ≡ told_word v (old_place v.post.vcpu First)) where
  abbrev n : Machine
  n = v.post.machine

  abbrev s : ℕ
  s = v.post.vcpu

  abbrev k : ℕ
  k = base_number which

  -- the word as it was
  old_spelled : IsSpelling n (Vcpu s k) (told_word v (Vcpu s k))
  old_spelled =
      subst (λ (o : Option Story). IsSpelling n (Vcpu s k) (word_in n o (Vcpu s k))) (sym stands.alone.telling)
      (stands.alone.state.sound.spelled.spelled (Vcpu s k) (vcpu_there (sizes_of n) s k stands.real (let low = low_number which in omega arith)))

  abbrev r : Plain
  r = back_named (let_go 4) (x.own k) q

  abbrev y : Solo
  y = rename (let_go 4) k (naming new) (with_frames q x)

  telling : is_telling v ≡ true
  telling = alone_telling v stands.alone

  module _ (stored flushed_at : PortValue) (old : ℕ) (stores : Moves b stored (Vcpu s k) (Store (naming new)) kinds.Context None old) (flushes : FlushesBehind stored flushed_at) (after : Came flushed_at w) where
    came_s : Came v stored
    came_s = came_trans v b stored came_b (moves_came b stored _ _ _ _ _ stores)

    flush : FlushesOwn stored flushed_at (Ok tt)
    flush = flushes_so v stored flushed_at w came_s after goes flushes

    after_s : Came stored w
    after_s = came_trans stored flushed_at w (own_came stored flushed_at (Ok tt) flush) after

    came_f : Came v flushed_at
    came_f = came_trans v stored flushed_at came_s (own_came stored flushed_at (Ok tt) flush)

    post_f : flushed_at.post ≡ v.post
    post_f = came_post v flushed_at came_f

    there : (p : Place) → p ≢ Vcpu s k → told_word stored p ≡ told_word b p
    there p off = told_elsewhere b stored (Vcpu s k) (Store (naming new)) kinds.Context None old stores p off

    describes_s : Describes n (told_word stored) q
    describes_s =
        record {
          shares = λ g inside. describes_b.shares g inside ∙ sym (ap share_of (there (Refs g) (λ e. cc)));
          kinds = λ g inside. describes_b.kinds g inside ∙ sym (ap (λ z. sober (kind_fields z)) (there (Kind g) (λ e. cc)));
          cells = λ g i inside few. describes_b.cells g i inside few ∙ sym (there (Cell g i) (λ e. cc));
        }

    describes_f : Describes n (told_word flushed_at) q
    describes_f = described_alike n (told_word flushed_at) (told_word stored) q (own_alike stored flushed_at (Ok tt) flush) describes_s

    off_first : Vcpu s 2 ≢ Vcpu s k
    off_first e = let same : 2 ≡ k = cc in let low = low_number which in omega arith

    first_f : told_word flushed_at (Vcpu s 2) ≡ 0
    first_f = own_alike stored flushed_at (Ok tt) flush (Vcpu s 2) (λ e. absurd (omega arith)) (λ e. absurd (omega arith)) ∙ there (Vcpu s 2) off_first ∙ first_b ∙ first_v

    module _ (req : Request) (serves : Serves v w req (SetsWord s k (naming new) ∷ [])) (mild : IsMild req) (rests : Rests w) (second : w.holdings.old1 ≡ Some 0) where
      came : Came v w
      came = serves_came v w req (SetsWord s k (naming new) ∷ []) serves

      post : w.post ≡ v.post
      post = came_post v w came

      -- what the word named before
      old_is : old ≡ x.own k
      old_is =
          sym (told_there b stored (Vcpu s k) (Store (naming new)) kinds.Context None old stores (came_telling v b came_b ∙ telling))
          ∙ word_before v w req s k (naming new) telling (told_of (base_number which) (base (low_number which))) serves b stored old came_b stores after_s ∙ sym (stands.others.own k (base (low_number which)))

      set_there : told_word w (Vcpu s k) ≡ naming new
      set_there = word_after v w req s k (naming new) telling (told_of (base_number which) (base (low_number which))) serves b stored old came_b stores after_s

      no_map : (g z : ℕ) → Member (SetsM2p g z) (SetsWord s k (naming new) ∷ []) → ⊥
      unfolding Member
      no_map g z (inl e) = cc
      no_map g z (inr none) = none

      no_word : (j z : ℕ) → j ≢ k → Member (SetsWord s j z) (SetsWord s k (naming new) ∷ []) → ⊥
      unfolding Member
      no_word j z off (inl e) = off (cc)
      no_word j z off (inr none) = none

      own_by : (j : ℕ) → IsShownWord j → put_at k (naming new) x.own j ≡ told_word w (Vcpu s j)
      own_by j shown = elim (cases_eq j k) [
        | inl here ↦
            ap (λ i. put_at k (naming new) x.own i) here ∙ ap (λ o. if o then naming new else x.own k) (let e : (k == k) ≡ true = grind (arith, nat_tests) in e)
            ∙ sym set_there ∙ ap (λ i. told_word w (Vcpu s i)) (sym here)
        | inr off ↦
            ap (λ o. if o then naming new else x.own j) (let e : (j == k) ≡ false = grind (arith, nat_tests) in e)
            ∙ stands.others.own j shown ∙ sym (own_stays v w req (SetsWord s k (naming new) ∷ []) telling serves j shown (λ z. no_word j z off))
      ]

      others : ShowsOthers n s (told_word w) y
      others =
          record {
            maps = λ g inside. stands.others.maps g inside ∙ sym (mapped_stays v w req (SetsWord s k (naming new) ∷ []) telling serves g stands.empty mild.pages (no_map g));
            own = own_by;
            privileges = λ g inside. stands.others.privileges g inside ∙ sym (privilege_stays v w req (SetsWord s k (naming new) ∷ []) telling serves g mild.grants);
            lives = λ g inside. stands.others.lives g inside ∙ sym (life_stays v w req (SetsWord s k (naming new) ∷ []) telling serves g mild.destroys);
          }

      unkept_back : (word : ℕ) → IsUnkept n (back_named (let_go 4) word q)
      unkept_back zero = unkept
      unkept_back (suc g) = unkept_let_go n 4 g q unkept

      stands_w : Stands w y
      stands_w = stands_at stays v w x y stands came rests.empty (second_there stays v w x stands came rests 0 second) others (unkept_back (x.own k))

      -- nothing is left
      clean_w : told_word w (Vcpu s 2) ≡ 0 → Describes n (told_word w) r → Owes w y
      clean_w first left =
          nothing
          (record {
            stands = stands_w;
            first = subst (λ (o : Post). told_word w (old_place o.vcpu First) ≡ 0) (sym post) first;
            frames = subst (λ (o : Post). Describes o.machine (told_word w) r) (sym post) left;
          })

      lets_go : (g : ℕ) → x.own k ≡ suc g → g < n.frames
      lets_go g is = named_by n s k (told_word v (Vcpu s k)) g (low_number which) old_spelled (sym (stands.others.own k (base (low_number which))) ∙ is)

      -- what it named is let go
      releases : (word : ℕ) (more : List Bool) → x.own k ≡ word → ReleasesOld flushed_at w word more → Owes w y
      releases zero more is rel =
          clean_w (ap (λ (z : PortValue). told_word z (Vcpu s 2)) rel.0 ∙ first_f)
          (subst (λ o. Describes n (told_word w) (back_named (let_go 4) o q)) (sym is) (subst (λ (z : PortValue). Describes n (told_word z) q) (sym rel.0) describes_f))
      releases (suc g) more is rel = by_answer rel.0 rel.1 rel.2
        where
          low : g < flushed_at.post.machine.frames
          low = subst (λ (o : Post). g < o.machine.frames) (sym post_f) (lets_go g is)

          telling_f : is_telling flushed_at ≡ true
          telling_f = came_telling v flushed_at came_f ∙ telling

          described : Describes flushed_at.post.machine (told_word flushed_at) q
          described = subst (λ (o : Post). Describes o.machine (told_word flushed_at) q) (sym post_f) describes_f

          by_answer : (answer : Result (Unit {0}) Stop) → WasReleased flushed_at g L4 w more answer → IfErr answer (λ e. e ≡ Paused Due) → Owes w y
          by_answer (Ok done) a due =
              clean_w ((released_away None flushed_at g L4 w more (Ok tt) refl a).same s 2 ∙ first_f)
              (subst (λ o. Describes n (told_word w) (back_named (let_go 4) o q)) (sym is)
              (subst (λ (o : Post). Describes o.machine (told_word w) (let_go 4 g q)) post_f
              (release flushed_at w g 4 more q (subst (λ (o : Post). IsMachine o.machine) (sym post_f) stands.machine) telling_f low (omega arith) described a)))
          by_answer (Err stop) a due =
              let left = paused flushed_at w g 4 more q telling_f low (omega arith) described (subst (λ (z : Stop). WasReleased flushed_at g L4 w more (Err z)) due a) in
              a_release g 4 stands_w
              (subst (λ o. IsLeft w.post.machine w g 4 (back_named (let_go 4) o q)) (sym is) (subst (λ m. IsLeft m w g 4 (let_go 4 g q)) (sym left.machine) left))

  pub installs : (more : List Bool) (req : Request) → Serves v w req (SetsWord s k (naming new) ∷ []) → IsMild req → Rests w → w.holdings.old1 ≡ Some 0 → Installed b w which new more → Owes w y
  installs more req serves mild rests second a =
      let stores = subst (λ (o : Post). Moves b a.stored (Vcpu o.vcpu k) (Store (naming new)) kinds.Context None a.old) (came_post v b came_b) a.stores in
      let after = rel_came a.flushed w a.old more a.releases in
      releases a.stored a.flushed a.old stores a.flushes after req serves mild rests second (x.own k) more refl
      (subst (λ o. ReleasesOld a.flushed w o more) (old_is a.stored a.flushed a.old stores a.flushes after req serves mild rests second) a.releases)
