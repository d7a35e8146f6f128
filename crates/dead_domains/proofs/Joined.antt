-- The same of the steps that the destroying vCPU made in a run: the state in which it had listed all frames is one of the run.
use Rattle.std.proofs.Common.{◌≡◌, ℕ, ◌+◌, ◌<◌, ◌≤◌, List, [], ◌∷◌, ◌++◌, length, Some, refl, sym, ap, ◌∙◌, subst, inl, inr}
use Rattle.xp_words.specs.Machine.{Machine}
use Rattle.xp_words.specs.declared.place.Place.TheVariants.{Life, Refs}
use Rattle.xp_words.specs.Places.{sizes_of}
use Rattle.xp_words.specs.declared.reply.LogLine.{LogLine}
use Rattle.xp_board.specs.declared.step.Act.{Act}
use Rattle.xp_board.specs.declared.step.Act.TheVariants.{Store}
use Rattle.xp_board.specs.declared.step.Step.{Step}
use Rattle.xp_board.specs.declared.holdings.Holdings.{Holdings}
use Rattle.xp_board.specs.declared.holdings.Made.{Made}
use Rattle.xp_board.specs.Acts.{left_by}
use Rattle.xp_board.specs.LifeSteps.{HasStopped}
use Rattle.xp_board.specs.Readings.{owner_of}
use Rattle.xp_board.specs.Runs.{Run, State, place_of, word_at}
use Rattle.xp_board.specs.Sound.{SoundState, hand_of}
use Rattle.xp_board.specs.Steps.{last_since}
use Rattle.sound_rule.proofs.OwnRun.{RunsSound}
use Rattle.dead_domains.specs.Listing.{HasListed, IsListed}
use Rattle.dead_domains.specs.Moments.{WasMade}
use Rattle.dead_domains.proofs.Halves.{stepped}
use Rattle.dead_domains.proofs.Lists.{listed_after}
use Rattle.dead_domains.proofs.StoppedRuns.{RunsBringNothing}

-- ---- by the steps alone
pub stopped_as : (n : Machine) (s d a : ℕ) (u h : Holdings) → h.steps ≡ u.steps → HasStopped n s d a u → HasStopped n s d a h
stopped_as n s d a u h e y =
    record { since = y.since; stored = rw e y.stored; stopped = λ v real own. rw e (y.stopped v real own); order = y.order }

is_listed_as : (n : Machine) (d a f : ℕ) (u h : Holdings) (op : ℕ) (lines : List LogLine) → h.steps ≡ u.steps → IsListed n d a f u op lines → IsListed n d a f h op lines
is_listed_as n d a f u h op lines e y = record { word = y.word; line = y.line; found = rw e y.found; owned = y.owned; counted = y.counted }

abbrev listed_as : (n : Machine) (s d : ℕ) (u h : Holdings) (op : ℕ) (lines : List LogLine) → h.steps ≡ u.steps → HasListed n s d u op lines → HasListed n s d h op lines
listed_as n s d u h op lines e y =
    record {
      since = y.since;
      stopped = stopped_as n s d y.since u h e y.stopped;
      frames = λ f real. elim (y.frames f real) [
        | inl other ↦ inl (rw e other)
        | inr listed ↦ inr (is_listed_as n d y.since f u h op lines e listed)
      ];
    }

abbrev pub LifeWordsLeft : Type 0
LifeWordsLeft =
    (n : Machine) (a b : State) (log : List (ℕ × Step)) (s d : ℕ) → Run n a log b → SoundState n a.words a.hands → s < (sizes_of n).vcpus →
    last_since (sizes_of n) (length (hand_of a.hands s).steps) (Life d) (hand_of b.hands s).steps ≡ Some (s + 1) → word_at n b (Life d) ≡ s + 1

abbrev pub StepsHaveStates : Type 0
StepsHaveStates =
    (n : Machine) (a b : State) (log : List (ℕ × Step)) (s : ℕ) (xs ys : List Made) (y : Made) → Run n a log b → SoundState n a.words a.hands → s < (sizes_of n).vcpus →
    (hand_of b.hands s).steps ≡ ys ++ (y ∷ xs) → length (hand_of a.hands s).steps ≤ length xs → WasMade n a b s xs y

module _ (lives : LifeWordsLeft) (states : StepsHaveStates) (sound : RunsSound) (brings : RunsBringNothing) (n : Machine) (a b : State) (log : List (ℕ × Step)) (s d : ℕ) (xs ys : List Made) (y : Made)
    (state : SoundState n a.words a.hands) (run : Run n a log b) (real : s < (sizes_of n).vcpus) (steps : (hand_of b.hands s).steps ≡ ys ++ (y ∷ xs)) (late : length (hand_of a.hands s).steps ≤ length xs) where
  made : WasMade n a b s xs y
  made = states n a b log s xs ys y run state real steps late

  before_sound : SoundState n made.before.words made.before.hands
  before_sound = sound n a made.before made.early made.led state

  -- from the state before that step to b, there is a run
  joined : (es : List (ℕ × Step)) (c : State) → Run n made.behind es c → (fs : List (ℕ × Step)) × Run n made.before fs c
  joined es c r = by es c r
    where
      by : (es : List (ℕ × Step)) (c : State) → Run n made.behind es c → (fs : List (ℕ × Step)) × Run n made.before fs c
      by [] c r = ((s, y.step) ∷ [], subst (λ (q : State). Run n made.before ((s, y.step) ∷ []) q) (sym r) (made.before, refl, made.step))
      by (e ∷ es) c r = let f = by es r.0 r.1 in (e ∷ f.0, (r.0, f.1, r.2))

  pub all_listed : (g op : ℕ) (lines : List LogLine) (u : Holdings) → d < (sizes_of n).domains → last_since (sizes_of n) (length (hand_of a.hands s).steps) (Life d) xs ≡ Some (s + 1) → u.steps ≡ xs →
      (e : HasListed n s d u op lines) → owner_of (word_at n b (Refs g)) ≡ Some d → IsListed n d e.since g u op lines
  all_listed g op lines u inside last same e own =
      let here : (hand_of made.before.hands s).steps ≡ u.steps = made.steps ∙ sym same in
      let life = lives n a made.before made.early s d made.led state real (ap (λ zs. last_since (sizes_of n) (length (hand_of a.hands s).steps) (Life d) zs) made.steps ∙ last) in
      let on = joined made.late b made.leads in
      is_listed_as n d e.since g (hand_of made.before.hands s) u op lines (sym here)
      (listed_after brings n made.before b on.0 s d g op lines before_sound on.1 real inside life (listed_as n s d u (hand_of made.before.hands s) op lines here e) own)

  pub is_dead : place_of n y.step ≡ Life d → y.step.act ≡ Store 255 → word_at n b (Life d) ≡ 255
  unfolding left_by
  is_dead at act =
      let behind_sound = sound n a made.behind ((s, y.step) ∷ made.early) (made.before, made.led, made.step) state in
      let here = (stepped n made.before made.behind s y.step before_sound made.step).here in
      let left : word_at n made.behind (Life d) ≡ 255 = ap (λ p. word_at n made.behind p) (sym at) ∙ here ∙ ap (λ (c : Act). left_by c (word_at n made.before (place_of n y.step))) act in
      (brings n made.behind b made.late made.leads behind_sound).dead d left
