-- What a vCPU comes to, where neither cells nor what it has cached and walked changed; and of a frame of another
-- domain over whose owner its domain never had privilege.
use Rattle.std.proofs.Common.{◌≡◌, ◌≢◌, ℕ, ◌<◌, true, false, Option, Some, None, IsTrue, refl, sym, subst, ◌∙◌, inl, inr}
use Rattle.xp_words.specs.Entries.{is_bit, frame_of}
use Rattle.xp_words.specs.RefWords.{ref_read}
use Rattle.xp_words.specs.declared.refs.RefWord.{RefWord}
use Rattle.xp_words.specs.declared.refs.RefWord.TheVariants.{Free, Owned, Dying}
use Rattle.xp_words.specs.declared.place.Place.{Place}
use Rattle.xp_words.specs.declared.place.Place.TheVariants.{Refs, Cell, Priv}
use Rattle.xp_words.specs.Places.{Sizes}
use Rattle.xp_board.specs.declared.holdings.Holdings.{Holdings}
use Rattle.xp_board.specs.Lists.{Member}
use Rattle.xp_board.specs.Readings.{is_free_in, is_free, owner_in, owner_of, has_ever}
use Rattle.xp_board.specs.Reach.{Use, Table, Writes, Reads, Reach, cached, walked, entry, use_below, reached_by}
use Rattle.xp_board.specs.Valid.{PermitsOwner}
use Rattle.xp_board.specs.Fresh.{Belongs}

module _ (z : Sizes) (m m2 : Place → ℕ) (u u2 : Holdings) (cells : (f i : ℕ) → m2 (Cell f i) ≡ m (Cell f i)) (cache : u2.cache ≡ u.cache) (walk : u2.walk ≡ u.walk) where
  pub reach_same : {g : ℕ} {p : Use} → Reach z m2 u2 g p → Reach z m u g p
  reach_same (cached x c) = cached x (subst (λ l. Member x l) cache c)
  reach_same (walked x c) = walked x (subst (λ o. Member x (reached_by o)) walk c)
  reach_same (entry f level i r w p b) =
      subst (λ x. Reach z m u (frame_of x) (use_below level x)) (sym (cells f i))
      (entry f level i (reach_same r) w (subst (λ x. IsTrue (is_bit 0 x)) (cells f i) p) (subst (λ x. frame_of x < z.frames) (cells f i) b))

free_none : (r : Option RefWord) → IsTrue (is_free_in r) → owner_in r ≡ None
free_none (Some (Free stamp)) h = refl
free_none (Some (Owned owner allocated count)) h = absurd cc
free_none (Some (Dying owner)) h = absurd cc
free_none None h = absurd cc

free_owner : (w o : ℕ) → IsTrue (is_free w) → owner_of w ≡ Some o → ⊥
unfolding is_free owner_of
free_owner w o h e = let k = free_none (ref_read w) h in cc

some_is : (a b : ℕ) → Some a ≡ Some b → a ≡ b
some_is a b e = cc

not_permitted : (m : Place → ℕ) (d o : ℕ) (w : Option ℕ) → PermitsOwner m d w → w ≡ Some o → d ≢ o → has_ever o (m (Priv d)) ≡ false → ⊥
not_permitted m d o (Some a) h e n f =
    elim h [ inl own ↦ n (sym own ∙ some_is a o e) | inr ever ↦ (let i = some_is a o e in let k : has_ever o (m (Priv d)) ≡ true = subst (λ x. IsTrue (has_ever x (m (Priv d)))) i ever in cc) ]
not_permitted m d o None h e n f = cc

pub reads_only : (m : Place → ℕ) (d g o : ℕ) (p : Use) → Belongs m d g p → owner_of (m (Refs g)) ≡ Some o → d ≢ o → has_ever o (m (Priv d)) ≡ false → p ≡ Reads
reads_only m d g o (Table level) h e n f = absurd (elim h [ inl free ↦ free_owner (m (Refs g)) o free e | inr own ↦ n (some_is d o (sym own ∙ e)) ])
reads_only m d g o Writes h e n f = absurd (not_permitted m d o (owner_of (m (Refs g))) h e n f)
reads_only m d g o Reads h e n f = refl
