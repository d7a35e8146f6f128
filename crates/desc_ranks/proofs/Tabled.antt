-- The pages of a GDT: those before the one that is not to be had are taken, and given back.
use Rattle.std.proofs.Common.{◌≡◌, ◌≢◌, ◌⊎◌, ℕ, zero, suc, ◌+◌, ◌<◌, ◌≤◌, ◌==◌, if◌then◌else◌, Bool, true, false, List, [], ◌∷◌, get_or, Result, Ok, Err, refl, sym, ap, ◌∙◌, subst, inl, inr, arith}
use Rattle.std.proofs.lemmas.Bool.Decides.{nat_tests}
use Rattle.xp_words.specs.Machine.{Machine}
use Rattle.xp_words.specs.declared.kind.KindWord.{KindWord}
use Rattle.xp_words.specs.declared.place.Place.TheVariants.{Life}
use Rattle.xp_words.specs.declared.reply.Pause.{Pause}
use Rattle.xp_words.specs.declared.reply.Stop.{Stop}
use Rattle.xp_words.specs.declared.reply.Stop.TheVariants.{Refused, Paused}
use Rattle.xp_board.specs.Readings.{kind_at}
use Rattle.xp_board.specs.Told.{PortValue, is_telling, told_word}
use Rattle.step_maker.specs.Plain.{Words}
use Rattle.step_maker.proofs.Telling.{came_telling}
use Rattle.step_maker.proofs.Visiting.{does_came}
use Rattle.answer_laws.specs.Alone.{IsAlone}
use Rattle.table_words.specs.OldWords.{old_place}
use Rattle.table_words.specs.declared.old_words.OldWord.{OldWord}
use Rattle.course_laws.proofs.Awaiting.{AloneStays}
use Rattle.desc_pages.specs.Gdt as gdt
use Rattle.desc_pages.specs.Gdt.{GivesPages, SetsGdt, TookPages}
use Rattle.desc_pages.specs.Pages.{GotDesc, TookDesc}
use Rattle.frame_ranks.specs.Ranks.{AreAllAlive, GoesForward}
use Rattle.frame_ranks.proofs.Facing.{Calm, Turned}
use Rattle.frame_ranks.proofs.Going.{At, at_later, at_telling}
use Rattle.frame_ranks.proofs.Standings.{rank_live}
use Rattle.desc_ranks.proofs.Counts.{Stands, stands_counts, stands_face, stands_given, stands_left, stands_ranks, stands_self, stands_some, stands_taken}
use Rattle.desc_ranks.proofs.Dropping.{Dropped, dropped}
use Rattle.desc_ranks.proofs.Getting.{LeftAs, TakenAs, got_gets, took_gets, unchanged, waits}

-- ---- how often a frame is among the first of a list, so many
abbrev pub more_if : Bool → ℕ → ℕ
more_if b t = if b then t + 1 else t

abbrev pub times : List ℕ → ℕ → ℕ → ℕ
times fs zero f = 0
times fs (suc k) f = more_if (get_or fs k 0 == f) (times fs k f)

-- from the words m to x each frame has as many type counts more
pub record HeldFrom (m x : Words) (fs : List ℕ) (k : ℕ) : Type 0 where
  pub frames : (f : ℕ) → Stands (kind_at m f) (kind_at x f) (times fs k f)
  pub olds : (s : ℕ) (which : OldWord) → x (old_place s which) ≡ m (old_place s which)
  pub lives : (d : ℕ) → x (Life d) ≡ m (Life d)

held_self : (m : Words) (fs : List ℕ) → HeldFrom m m fs 0
held_self m fs = record { frames = λ f. stands_self (kind_at m f); olds = λ s which. refl; lives = λ d. refl }

either : (f g : ℕ) → (f ≡ g) ⊎ (f ≢ g)
either f g = by (f == g) refl
  where
    by : (b : Bool) → (f == g) ≡ b → (f ≡ g) ⊎ (f ≢ g)
    by true is = inl (grind (arith, nat_tests))
    by false is = inr (grind (arith, nat_tests))

times_more : (fs : List ℕ) (k f : ℕ) → times fs (k + 1) f ≡ more_if (get_or fs k 0 == f) (times fs k f)
times_more fs k f = let e : suc k ≡ k + 1 = omega arith in subst (λ j. times fs j f ≡ more_if (get_or fs k 0 == f) (times fs k f)) e refl

times_here : (fs : List ℕ) (k f : ℕ) → f ≡ get_or fs k 0 → times fs (k + 1) f ≡ times fs k f + 1
times_here fs k f at = times_more fs k f ∙ ap (λ b. more_if b (times fs k f)) (let e : (get_or fs k 0 == f) ≡ true = grind (arith, nat_tests) in e)

times_there : (fs : List ℕ) (k f : ℕ) → f ≢ get_or fs k 0 → times fs (k + 1) f ≡ times fs k f
times_there fs k f off = times_more fs k f ∙ ap (λ b. more_if b (times fs k f)) (let e : (get_or fs k 0 == f) ≡ false = grind (arith, nat_tests) in e)

-- ---- one frame is changed, from x to y
module _ (m x y : Words) (fs : List ℕ) (k : ℕ) (word : KindWord) (turned : Turned x y (get_or fs k 0) word) where
  abbrev g : ℕ
  g = get_or fs k 0

  -- behind t of them here, and elsewhere as many as before, there are u
  changed : (i j : ℕ) → HeldFrom m x fs i → (Stands (kind_at m (get_or fs k 0)) (kind_at x (get_or fs k 0)) (times fs i (get_or fs k 0)) → Stands (kind_at m (get_or fs k 0)) word (times fs j (get_or fs k 0))) →
      ((f : ℕ) → f ≢ get_or fs k 0 → times fs j f ≡ times fs i f) → HeldFrom m y fs j
  changed i j h here there =
      record {
        frames = λ f. elim (either f g) [
          | inl at ↦ subst (λ e. Stands (kind_at m e) (kind_at y e) (times fs j e)) (sym at) (stands_face (kind_at m g) word (kind_at y g) (times fs j g) turned.here (here (h.frames g)))
          | inr off ↦ subst (λ t. Stands (kind_at m f) (kind_at y f) t) (sym (there f off)) (stands_face (kind_at m f) (kind_at x f) (kind_at y f) (times fs i f) (turned.others f off) (h.frames f))
        ];
        olds = λ s which. turned.olds s which ∙ h.olds s which;
        lives = λ d. turned.lives d ∙ h.lives d;
      }

held_calm : (m x y : Words) (fs : List ℕ) (k : ℕ) → Calm x y → HeldFrom m x fs k → HeldFrom m y fs k
held_calm m x y fs k calm h =
    record {
      frames = λ f. stands_face (kind_at m f) (kind_at x f) (kind_at y f) (times fs k f) (calm.faces f) (h.frames f);
      olds = λ s which. calm.olds s which ∙ h.olds s which;
      lives = λ d. calm.lives d ∙ h.lives d;
    }

module _ (m x y : Words) (fs : List ℕ) (k : ℕ) where
  held_more : TakenAs x y (get_or fs k 0) → HeldFrom m x fs k → HeldFrom m y fs (k + 1)
  held_more a h =
      let g = get_or fs k 0 in
      changed m x y fs k a.word a.turned k (k + 1) h
      (λ s. subst (λ t. Stands (kind_at m g) a.word t) (sym (times_here fs k g refl)) (stands_taken (kind_at m g) (kind_at x g) a.word (times fs k g) a.live a.taken s))
      (λ f off. times_there fs k f off)

  held_left : LeftAs x y (get_or fs k 0) → HeldFrom m x fs k → HeldFrom m y fs k
  held_left (unchanged calm) h = held_calm m x y fs k calm h
  held_left (waits word turned dead off low) h =
      let g = get_or fs k 0 in changed m x y fs k word turned k k h (λ s. stands_left (kind_at m g) (kind_at x g) word (times fs k g) dead off low s) (λ f away. refl)

  held_less : Dropped x y (get_or fs k 0) → HeldFrom m x fs (k + 1) → HeldFrom m y fs k
  held_less a h =
      let g = get_or fs k 0 in
      changed m x y fs k a.word a.turned (k + 1) k h
      (λ s. stands_given (kind_at m g) (kind_at x g) a.word (times fs k g) a.given (subst (λ t. Stands (kind_at m g) (kind_at x g) t) (times_here fs k g refl) s))
      (λ f off. sym (times_there fs k f off))

  -- there is one to be given back
  held_some : HeldFrom m x fs (k + 1) → ((kind_at x (get_or fs k 0)).validated ≡ true) × (1 ≤ (kind_at x (get_or fs k 0)).number)
  held_some h = let g = get_or fs k 0 in stands_some (kind_at m g) (kind_at x g) (times fs k g) (subst (λ t. Stands (kind_at m g) (kind_at x g) t) (times_here fs k g refl) (h.frames g))

held_forward : (n : Machine) (m x : Words) (fs : List ℕ) → HeldFrom m x fs 0 → GoesForward n m x
held_forward n m x fs h =
    record {
      ranks = λ f inside. stands_ranks (kind_at m f) (kind_at x f) (rank_live (kind_at m f)) (rank_live (kind_at x f)) (h.frames f);
      counts = λ f inside live. stands_counts (kind_at m f) (kind_at x f) (h.frames f) live;
      olds = h.olds;
    }

-- ---- from port to port
module _ (stays : AloneStays) (n : Machine) (v : PortValue) (at : At n v) (alive : AreAllAlive n (told_word v)) (d : ℕ) (fs : List ℕ) where
  -- behind so many that were taken
  pub record Held (w : PortValue) (k : ℕ) : Type 0 where
    pub there : At n w
    pub held : HeldFrom (told_word v) (told_word w) fs k

  still_alive : (w : PortValue) (k : ℕ) → Held w k → AreAllAlive n (told_word w)
  still_alive w k h e real = h.held.lives e ∙ alive e real

  took_held : (k : ℕ) (w : PortValue) → TookPages v d fs k w → Held w k
  took_held _ _ gdt.TookPages.none = record { there = at; held = held_self (told_word v) fs }
  took_held _ _ (gdt.TookPages.more k u w took got) =
      let h = took_held k u took in
      let g = got_gets stays n (get_or fs k 0) d u h.there (still_alive u k h) w (Ok (get_or fs k 0)) got in
      record { there = at_later stays n u w h.there (g.came tt); held = held_more (told_word v) (told_word u) (told_word w) fs k g.answered h.held }

  -- given back again
  gave_held : (k : ℕ) (a w : PortValue) → GivesPages fs k a w → is_telling a ≡ true → HeldFrom (told_word v) (told_word a) fs k → HeldFrom (told_word v) (told_word w) fs 0
  gave_held _ _ _ (gdt.GivesPages.none a) telling h = h
  gave_held _ _ _ (gdt.GivesPages.more k a u w drops gives) telling h =
      let some = held_some (told_word v) (told_word a) (told_word a) fs k h in
      let b = dropped a u (get_or fs k 0) telling some.0 some.1 drops in
      gave_held k u w gives (came_telling a u (does_came a u _ drops) ∙ telling) (held_less (told_word v) (told_word a) (told_word u) fs k b h)

  untaken_forward : (k : ℕ) (a b w : PortValue) (p : Pause) → TookPages v d fs k a → GotDesc a (get_or fs k 0) d b (Err (Paused p)) → GivesPages fs k b w → GoesForward n (told_word v) (told_word w)
  untaken_forward k a b w p took got gives =
      let h = took_held k a took in
      let g = got_gets stays n (get_or fs k 0) d a h.there (still_alive a k h) b (Err (Paused p)) got in
      let left = held_left (told_word v) (told_word a) (told_word b) fs k g.answered h.held in
      held_forward n (told_word v) (told_word w) fs (gave_held k b w gives (came_telling a b (g.came tt) ∙ at_telling n a h.there) left)

-- ---- the laws
abbrev IsPaused : {A : Type 0} → Result A Stop → Type 0
IsPaused (Err (Paused p)) = Unit {0}
IsPaused _ = ⊥

module _ (stays : AloneStays) (v w : PortValue) (alone : IsAlone v) (alive : AreAllAlive v.post.machine (told_word v)) where
  here : At v.post.machine v
  here = record { alone = alone; machine = refl }

  untaken_by : (d : ℕ) (fs : List ℕ) (k : ℕ) (a b w : PortValue) (e : Stop) → IsPaused {A = Unit {0}} (Err e) → TookPages v d fs k a → GotDesc a (get_or fs k 0) d b (Err e) → GivesPages fs k b w → GoesForward v.post.machine (told_word v) (told_word w)
  untaken_by d fs k a b w (Refused r) paused took got gives = absurd paused
  untaken_by d fs k a b w (Paused p) paused took got gives = untaken_forward stays v.post.machine v here alive d fs k a b w p took got gives

  set_by : (entries : ℕ) (fs : List ℕ) (w : PortValue) (r : Result (Unit {0}) Stop) → SetsGdt v entries fs w r → IsPaused r → GoesForward v.post.machine (told_word v) (told_word w)
  set_by entries fs _ _ (gdt.SetsGdt.barred x is) paused = absurd paused
  set_by entries fs _ _ (gdt.SetsGdt.untaken k a b w e none took less got gives) paused = untaken_by _ fs k a b w e paused took got gives
  set_by entries fs _ _ (gdt.SetsGdt.set a w none took named) paused = absurd paused

  pub gdt_forward : (entries : ℕ) (fs : List ℕ) (p : Pause) → SetsGdt v entries fs w (Err (Paused p)) → GoesForward v.post.machine (told_word v) (told_word w)
  gdt_forward entries fs p sets = set_by entries fs w (Err (Paused p)) sets tt

  -- ---- a single page
  left_forward : (f : ℕ) → LeftAs (told_word v) (told_word w) f → GoesForward v.post.machine (told_word v) (told_word w)
  left_forward f left = let fs = f ∷ [] in held_forward v.post.machine (told_word v) (told_word w) fs (held_left (told_word v) (told_word v) (told_word w) fs 0 left (held_self (told_word v) fs))

  pub page_forward : (f owner : ℕ) (p : Pause) → f < v.post.machine.frames → TookDesc v f owner w (Err (Paused p)) → GoesForward v.post.machine (told_word v) (told_word w)
  page_forward f owner p real took = left_forward f (took_gets stays v.post.machine f owner v here alive real w (Err (Paused p)) took).answered

  pub referred_forward : (f owner : ℕ) (p : Pause) → GotDesc v f owner w (Err (Paused p)) → GoesForward v.post.machine (told_word v) (told_word w)
  referred_forward f owner p got = left_forward f (got_gets stays v.post.machine f owner v here alive w (Err (Paused p)) got).answered
