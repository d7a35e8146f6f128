-- Stores of the guest, and bits set by a walk: what entries lead to stays.
use Rattle.std.proofs.Common.{◌≡◌, ◌≢◌, ℕ, ◌<◌, ◌≤◌, List, [], ◌∷◌, Option, Some, None, IsTrue, refl, sym, ◌∙◌, subst, inl, inr, arith}
use Rattle.std.proofs.lemmas.Bool.{cases_Bool, and_parts}
use Rattle.xp_words.specs.declared.kind.PageType.{PageType}
use Rattle.xp_words.specs.declared.kind.PageType.TheVariants as kinds
use Rattle.xp_words.specs.Entries.{demand_at}
use Rattle.xp_words.specs.Machine.{Machine}
use Rattle.xp_words.specs.declared.place.Place.{Place}
use Rattle.xp_words.specs.declared.place.Place.TheVariants.{Kind, Cell}
use Rattle.xp_words.specs.Places.{sizes_of, is_place}
use Rattle.xp_board.specs.declared.step.Step.{Step}
use Rattle.xp_board.specs.declared.holdings.Reached.{Reached}
use Rattle.xp_board.specs.declared.holdings.Touching.{Touching}
use Rattle.xp_board.specs.declared.holdings.Walk.{Walk}
use Rattle.xp_board.specs.declared.holdings.Holdings.{Holdings}
use Rattle.xp_board.specs.Lists.{Member}
use Rattle.xp_board.specs.Readings.{kind_at, is_live}
use Rattle.xp_board.specs.WellFormed.{IsDescent, TouchesIn}
use Rattle.xp_board.specs.Reach.{Table, Writes, Reach, walked, reached_by}
use Rattle.xp_board.specs.Recorded.{held}
use Rattle.xp_board.specs.Valid.{Valid, Permitted}
use Rattle.xp_board.specs.Sound.{Sound}
use Rattle.xp_board.proofs.EntryWords.{entry_asks_same, touched_same}
use Rattle.step_effects.proofs.ActEffects.{GuestStored, Touched}
use Rattle.type_rule.proofs.HandParts.{three_descended}
use Rattle.xp_board.proofs.HeldByForm.{held_table}
use Rattle.type_rule.proofs.CellAct.{cell_valid, cell_permitted}
use Rattle.type_rule.proofs.CellRows.{live_flushed, seven_no_table, seven_no_desc, level_no_desc}
use Rattle.xp_board.proofs.Recordless.{marked_none}
use Rattle.xp_board.proofs.ReachAll.{written_reach}
use Rattle.xp_board.proofs.CellAlike.{not_reads}

-- ---- uses

module _ (n : Machine) (s : ℕ) (x : Step) (m m2 : Place → ℕ) (b c : ℕ → Holdings) (real : s < (sizes_of n).vcpus) (sound : Sound n m b)
    (others : (t : ℕ) → t ≢ s → c t ≡ b t) where
  written : (f : ℕ) → Reach (sizes_of n) m (b s) f Writes → IsTrue (is_place (sizes_of n) (Kind f)) →
      ((i : ℕ) → i < held (sizes_of n) m b f → ⊥) × (IsTrue (is_live (kind_at m f)) → (kind_at m f).kind ≡ kinds.Desc → ⊥)
  written f reach there =
      elim (((sound.fresh.each s real f Writes reach).bears).typed (λ e. cc)) [
        | inl plain ↦ (λ i l. seven_no_table (kind_at m f).kind plain.1 (held_table (kind_at m f) _ i l), λ live desc. seven_no_desc (kind_at m f).kind plain.1 desc)
        | inr marked ↦ (
          λ i l. elim (cases_Bool (kind_at m f).validated) [
            | inl live ↦ (let k = live_flushed n s x m m2 b c real sound others f live in let q = marked.0 in cc)
            | inr dead ↦ absurd (let z = marked_none n m b f sound marked.0 in omega arith)
          ],
          λ live desc. let k = live_flushed n s x m m2 b c real sound others f live in let q = marked.0 in cc,
        )
      ]

  kind_there : (f i : ℕ) → IsTrue (is_place (sizes_of n) (Cell f i)) → IsTrue (is_place (sizes_of n) (Kind f))
  unfolding is_place
  kind_there f i h = (and_parts _ _ h).0

  pub guest_valid : (f i : ℕ) → GuestStored n x f i m m2 (b s) (c s) → Valid (sizes_of n) m2 c
  guest_valid f i d =
      let k = written f (written_reach (sizes_of n) m (b s) f d.may.item) (kind_there f i d.wrote.real) in
      cell_valid n s x m m2 b c real sound others f i d.wrote.others (m2 (Cell f i)) (b s) d.wrote.place d.wrote.left d.hand (record { works = refl; looking = refl; steps = refl })
      (record { entry = λ l. absurd (k.0 i l); fixed = λ live desc l. absurd (k.1 live desc) })

  pub guest_permitted : (f i : ℕ) → GuestStored n x f i m m2 (b s) (c s) → Permitted n m2 c
  guest_permitted f i d =
      let k = written f (written_reach (sizes_of n) m (b s) f d.may.item) (kind_there f i d.wrote.real) in
      cell_permitted n s x m m2 b c real sound others f i d.wrote.others (m2 (Cell f i)) (b s) d.wrote.place d.wrote.left d.hand (record { works = refl; looking = refl; steps = refl })
      (record { entry = λ l. absurd (k.0 i l); fixed = λ live desc l. absurd (k.1 live desc) })

  -- ---- the table that the walk reached last
  last_reached : (walk : Walk) (f i w : ℕ) (xs : List Reached) (o : Option Touching) (level : ℕ) → walk.reached ≡ xs → TouchesIn walk xs o → o ≡ Some (record { frame = f; index = i; word = w }) →
      IsDescent level xs → level ≤ 4 → (y : Reached) × Member y walk.reached × (y.table ≡ f) × (y.level ≤ 4)
  unfolding Member
  last_reached walk f i w [] (Some t) level at k e down few = absurd k
  last_reached walk f i w [] None level at k e down few = absurd (cc)
  last_reached walk f i w (y ∷ ys) (Some t) level at k e down few =
      let same : t.frame ≡ f = cc in
      (y, rw at (inl refl), sym k.frame ∙ same, (let l = down.0 in omega arith))
  last_reached walk f i w (y ∷ ys) None level at k e down few = absurd (cc)

  touched_fixed : (f i : ℕ) → Touched n x f i m m2 (b s) (c s) → IsTrue (is_live (kind_at m f)) → (kind_at m f).kind ≡ kinds.Desc → ⊥
  touched_fixed f i d live desc =
      let formed = (sound.formed s real).cache.walk d.walk d.may.flying in
      let y = last_reached d.walk f i (m (Cell f i)) d.walk.reached d.walk.touching formed.level refl formed.touching d.may.needed formed.descent formed.high in
      let there : Member y.0 (reached_by (b s).walk) = subst (λ o. Member y.0 (reached_by o)) (sym d.may.flying) y.1 in
      let reach : Reach (sizes_of n) m (b s) f (Table y.0.level) = subst (λ g. Reach (sizes_of n) m (b s) g (Table y.0.level)) y.2 (walked y.0 there) in
      elim (((sound.fresh.each s real f (Table y.0.level) reach).bears).typed (not_reads y.0.level)) [
        | inl plain ↦ level_no_desc (kind_at m f).kind y.0.level plain.1 y.3 desc
        | inr marked ↦ (let k = live_flushed n s x m m2 b c real sound others f live in let q = marked.0 in cc)
      ]

  touched_asks : (f i : ℕ) → Touched n x f i m m2 (b s) (c s) → (k : PageType) → demand_at k i (m2 (Cell f i)) ≡ demand_at k i (m (Cell f i))
  touched_asks f i d k = sym (entry_asks_same k i (m (Cell f i)) (m2 (Cell f i)) (rw d.may.left (touched_same d.walk (m (Cell f i)))))

  pub touched_valid : (f i : ℕ) → Touched n x f i m m2 (b s) (c s) → Valid (sizes_of n) m2 c
  touched_valid f i d =
      cell_valid n s x m m2 b c real sound others f i d.wrote.others (m2 (Cell f i)) _ d.wrote.place d.wrote.left d.hand (three_descended n d.walk (m2 (Cell f i)) (b s))
      (record { entry = λ l. inl (touched_asks f i d _); fixed = λ live desc l. absurd (touched_fixed f i d live desc) })

  pub touched_permitted : (f i : ℕ) → Touched n x f i m m2 (b s) (c s) → Permitted n m2 c
  touched_permitted f i d =
      cell_permitted n s x m m2 b c real sound others f i d.wrote.others (m2 (Cell f i)) _ d.wrote.place d.wrote.left d.hand (three_descended n d.walk (m2 (Cell f i)) (b s))
      (record { entry = λ l. inl (touched_asks f i d _); fixed = λ live desc l. absurd (touched_fixed f i d live desc) })
