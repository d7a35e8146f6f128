-- One entry of a walk, done again on words: it is loaded, and has the bits that the walk needs then, whether it had them already or not.
use Rattle.std.proofs.Common.{◌≡◌, ℕ, ◌==◌, ◌&&◌, not, if◌then◌else◌, Bool, true, false, List, refl, sym, ap, ◌∙◌}
use Rattle.xp_words.specs.Entries.{is_bit}
use Rattle.xp_words.specs.declared.place.Place.TheVariants.{Cell}
use Rattle.xp_board.specs.Acts.{left_by}
use Rattle.xp_board.specs.Steps.{is_same}
use Rattle.xp_board.specs.declared.step.Act.TheVariants.{Cas}
use Rattle.xp_board.proofs.PlaceTests.{equal_by, equal_refl, same_place}
use Rattle.step_maker.specs.Plain.{Words}
use Rattle.step_maker.specs.Visits.{Only, Visit, Where}
use Rattle.step_maker.proofs.Telling.{by_test}
use Rattle.replay_laws.specs.Replays.{Replays, ReplaysAs, SameWords}
use Rattle.replay_laws.proofs.Replaying.{as_nothing, as_only, as_then, look_leaves}
use Rattle.tlb_walks.specs.Walks.{EntryBy, saw_entry, sets_bits}
use Rattle.solo_accesses.proofs.Cells.{SetsCell}

-- the entry as the walk leaves it
abbrev pub entry_left : ℕ → ℕ → ℕ
entry_left w new = if is_bit 0 w then new else w

-- the walk exchanges it
abbrev pub lacks : ℕ → ℕ → Bool
lacks w new = is_bit 0 w && not (new == w)

pub record EnteredAs (m : Words) (table i w new found : ℕ) (u : Words) : Type 0 where
  pub was : m (Cell table i) ≡ w
  pub met : lacks w new ≡ true → found ≡ w
  pub sets : SetsCell m table i (entry_left w new) u

left_there : (a b : Bool) (w new : ℕ) → (a && not b) ≡ true → (if a then new else w) ≡ new
left_there true b w new on = refl
left_there false b w new on = absurd cc

left_alone : (a : Bool) (w new : ℕ) (b : Bool) → (b ≡ true → new ≡ w) → (a && not b) ≡ false → (if a then new else w) ≡ w
left_alone true w new true same off = same refl
left_alone true w new false same off = absurd cc
left_alone false w new b same off = refl

module _ (m k u : Words) (table i w new found : ℕ) (was : m (Cell table i) ≡ w) (looked : SameWords m k) where
  met_there : ReplaysAs k (Only (sets_bits table i w new found)) u → found ≡ w
  met_there a = sym ((as_only k u (sets_bits table i w new found) a).0) ∙ looked (Cell table i) ∙ was

  put_there : (x : ℕ) → x ≡ w → left_by (Cas w new) x ≡ new
  unfolding left_by
  put_there x is = ap (λ y. if y == w then new else y) is ∙ ap (λ b. if b then new else w) (equal_refl w)

  sets_there : lacks w new ≡ true → ReplaysAs k (Only (sets_bits table i w new found)) u → SetsCell m table i (entry_left w new) u
  sets_there on a q =
      (as_only k u (sets_bits table i w new found) a).1 q
      ∙ ap (λ y. if is_same q (Cell table i) then y else k q) (put_there (k (Cell table i)) (looked (Cell table i) ∙ was) ∙ sym (left_there (is_bit 0 w) (new == w) w new on))
      ∙ ap (λ y. if is_same q (Cell table i) then entry_left w new else y) (looked q)

  stays_there : lacks w new ≡ false → SameWords k u → SetsCell m table i (entry_left w new) u
  stays_there off same q =
      same q ∙ looked q
      ∙ by_test (is_same q (Cell table i)) (entry_left w new) (m q) (m q)
      (λ on. ap m (same_place q (Cell table i) on) ∙ was ∙ sym (left_alone (is_bit 0 w) w new (new == w) (λ e. equal_by new w e) off)) (λ off. refl)

  by_bits : (b : Bool) → lacks w new ≡ b → ReplaysAs k (Where b (Only (sets_bits table i w new found))) u → EnteredAs m table i w new found u
  by_bits true on a = record { was = was; met = λ on. met_there a; sets = sets_there on a }
  by_bits false off a = record { was = was; met = λ on. let no = sym on ∙ off in absurd cc; sets = stays_there off (as_nothing k u a) }

pub entered : (m u : Words) (table i w new found : ℕ) (vs : List Visit) → EntryBy table i w new found vs → Replays m vs u → EnteredAs m table i w new found u
entered m u table i w new found vs like replays =
    let parts = as_then m u (Only (saw_entry table i w)) (Where (lacks w new) (Only (sets_bits table i w new found))) (record { list = vs; like = like; replays = replays }) in
    let look = as_only m parts.0 (saw_entry table i w) parts.1 in
    let looked : SameWords m parts.0 = λ q. look.1 q ∙ look_leaves m (saw_entry table i w) refl q in
    by_bits m parts.0 u table i w new found look.0 looked (lacks w new) refl parts.2
