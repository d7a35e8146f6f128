-- A walk is determined by the words that it finds.
use Rattle.std.proofs.Common.{◌≡◌, ◌≢◌, ◌⊎◌, ℕ, ◌-◌, ◌<◌, ◌==◌, ◌&&◌, not, Bool, true, false, List, [], ◌∷◌, ◌++◌, Option, Some, None, Result, Ok, Err, refl, sym, ap, ◌∙◌, subst, inl, inr, arith}
use Rattle.xp_words.specs.Entries.{is_bit, frame_of}
use Rattle.xp_words.specs.Machine.{Machine}
use Rattle.xp_words.specs.declared.place.Place.TheVariants.{Vcpu, Cell}
use Rattle.xp_words.specs.declared.reply.Pause.TheVariants as pauses
use Rattle.xp_words.specs.declared.reply.Pause.TheVariants.{Lost}
use Rattle.xp_words.specs.declared.reply.Refusal.{Refusal}
use Rattle.xp_words.specs.declared.reply.Refusal.TheVariants.{NotMapped}
use Rattle.xp_words.specs.declared.reply.Stop.{Stop}
use Rattle.xp_words.specs.declared.reply.Stop.TheVariants.{Refused, Paused}
use Rattle.xp_board.specs.declared.step.Act.TheVariants.{Cas, Load}
use Rattle.xp_board.specs.declared.step.Mark.TheVariants as marks
use Rattle.xp_words.proofs.Shared.{eq_false}
use Rattle.step_maker.specs.Licences.{is_unmapped}
use Rattle.step_maker.specs.Visits.{Visit, Only, Where, visit}
use Rattle.tlb_walks.specs.Addresses.{index_of, walk_refusal}
use Rattle.tlb_walks.specs.declared.walks.Walked.{Walked}
use Rattle.tlb_walks.specs.Walks as walks
use Rattle.tlb_walks.specs.Walks.{EndsAt, EntryBy, PathBy, WalkBy, barrier_with, base_visit, saw_entry, sets_bits, top_word, with_needed}
use Rattle.determined_laws.specs.Forks.{Tie}
use Rattle.determined_laws.proofs.Ties.{tie_map, tie_lists, swapped, forks_newer, fork_here, tie_one, tie_then}

-- ---- one entry
abbrev needs : (ℕ → ℕ) → ℕ → Bool
needs N w = is_bit 0 w && not (N w == w)

abbrev pub SameEntry : (ℕ → ℕ) → ℕ → ℕ → ℕ → ℕ → Type 0
SameEntry N w x found other = (w ≡ x) × (needs N x ≡ true → found ≡ other)

where_tie : (b : Bool) (t i w new found other : ℕ) (us vs : List Visit) → Where b (Only (sets_bits t i w new found)) us → Where b (Only (sets_bits t i w new other)) vs → Tie us vs (b ≡ true → found ≡ other)
where_tie true t i w new found other us vs e f = tie_lists us vs _ _ _ e f (tie_map _ _ _ _ (tie_one _ (Cell t i) (Cas w new) None found other) (λ s h. s))
where_tie false t i w new found other us vs e f = inr (e ∙ sym f, λ h. absurd cc)

entry_tie : (N : ℕ → ℕ) (t i w x found other : ℕ) (us vs : List Visit) → EntryBy t i w (N w) found us → EntryBy t i x (N x) other vs → Tie us vs (SameEntry N w x found other)
entry_tie N t i w x found other us vs a b =
    tie_lists us vs _ _ _ (a.list ∙ ap (λ z. a.after ++ z) a.first) (b.list ∙ ap (λ z. b.after ++ z) b.first)
    (tie_then (saw_entry t i w ∷ []) (saw_entry t i x ∷ []) a.after b.after (w ≡ x) (SameEntry N w x found other) (tie_one _ (Cell t i) Load None w x)
    (λ e same. tie_map a.after b.after _ _
    (where_tie (needs N x) t i x (N x) found other a.after b.after (subst (λ z. Where (needs N z) (Only (sets_bits t i z (N z) found)) a.after) same a.next) b.next) (λ h. (same, h))))

-- ---- how it ends
lost_needs : (N : ℕ → ℕ) (w : ℕ) → is_bit 0 w ≡ true → N w ≢ w → needs N w ≡ true
lost_needs N w there other = let b = eq_false (N w) w other in rw (there, b) refl

module _ (n : Machine) (t i level : ℕ) (barrier : Option ℕ) (N : ℕ → ℕ) (w : ℕ) where
  Ends : ℕ → Result Walked Stop → Type 0
  Ends found a = EndsAt n t i level barrier w (N w) found a

  walked_same : (r s : Walked) → r.entry ≡ w → r.barrier ≡ barrier → s.entry ≡ w → s.barrier ≡ barrier → r ≡ s
  walked_same r s a b c d = rw (a, b, c, d) refl

  ends_same : (found other : ℕ) → (needs N w ≡ true → found ≡ other) → (a b : Result Walked Stop) → Ends found a → Ends other b → a ≡ b
  unfolding Ends
  ends_same found other tie (Ok r) (Ok s) e f = let same : r ≡ s = walked_same r s e.3 e.4 f.3 f.4 in ap (λ z. Ok z) same
  ends_same found other tie (Ok r) (Err (Refused (NotMapped l x))) e f = absurd (let g = sym e.1 ∙ f.2 in cc)
  ends_same found other tie (Ok r) (Err (Paused (Lost p x y))) e f = absurd (f.5 (sym (tie (lost_needs N w f.3 f.4)) ∙ e.2))
  ends_same found other tie (Err (Refused (NotMapped l x))) (Ok s) e f = absurd (let g = sym f.1 ∙ e.2 in cc)
  ends_same found other tie (Err (Refused (NotMapped l x))) (Err (Refused (NotMapped k y))) e f = rw (e.0, e.1, f.0, f.1) refl
  ends_same found other tie (Err (Refused (NotMapped l x))) (Err (Paused (Lost p z y))) e f = absurd (f.5 (sym (tie (lost_needs N w f.3 f.4)) ∙ e.3))
  ends_same found other tie (Err (Paused (Lost p x y))) (Ok s) e f = absurd (e.5 (tie (lost_needs N w e.3 e.4) ∙ f.2))
  ends_same found other tie (Err (Paused (Lost p x y))) (Err (Refused (NotMapped l z))) e f = absurd (e.5 (tie (lost_needs N w e.3 e.4) ∙ f.3))
  ends_same found other tie (Err (Paused (Lost p x y))) (Err (Paused (Lost q u v))) e f = let s = tie (lost_needs N w e.3 e.4) in rw (e.0, e.1, e.2, f.0, f.1, f.2, s) refl
  ends_same found other tie (Ok r) (Err x) e f = absurd f
  ends_same found other tie (Err (Refused (NotMapped l x))) (Err z) e f = absurd f
  ends_same found other tie (Err (Paused (Lost p x y))) (Err z) e f = absurd f
  ends_same found other tie (Err x) b e f = absurd e

  -- it does not end where it goes on
  no_end : (found : ℕ) → (needs N w ≡ true → found ≡ w) → 1 < level → is_unmapped n w ≡ false → (a : Result Walked Stop) → Ends found a → {A : Type 0} → A
  unfolding Ends
  no_end found tie deep mapped (Ok r) e = absurd (let l = e.0 in omega (arith, deep, l))
  no_end found tie deep mapped (Err (Refused (NotMapped l x))) e = absurd (let g = sym mapped ∙ e.2 in cc)
  no_end found tie deep mapped (Err (Paused (Lost p x y))) e = absurd (e.5 (tie (lost_needs N w e.3 e.4)))
  no_end found tie deep mapped (Err x) e = absurd e

-- ---- from a table down
module _ (n : Machine) (va : ℕ) (write : Bool) (a b : Result Walked Stop) where
  abbrev new : ℕ → Option ℕ → ℕ → ℕ
  new level barrier w = with_needed write level (barrier_with barrier w) w

  pub path_tie : (level table : ℕ) (barrier : Option ℕ) (us vs : List Visit) → PathBy n va write a level table barrier us → PathBy n va write b level table barrier vs → Tie us vs (a ≡ b)
  unfolding Ends
  path_tie _ _ _ _ _ (walks.ends level table barrier us w found e f) (walks.ends _ _ _ vs x other g h) =
      tie_map us vs _ _ (entry_tie (new level barrier) table (index_of va level) w x found other us vs e g)
      (λ s. ends_same n table (index_of va level) level (barrier_with barrier x) (λ z. with_needed write level (barrier_with barrier x) x) x found other s.1 a b
      (subst (λ z. EndsAt n table (index_of va level) level (barrier_with barrier z) z (new level barrier z) found a) s.0 f) h)
  path_tie _ _ _ _ _ (walks.ends level table barrier us w found e f) (walks.goes _ _ _ vs first rest x deep mapped g more list) =
      subst (λ z. Tie us z (a ≡ b)) (sym list) (by (entry_tie (new level barrier) table (index_of va level) w x found x us first e g))
    where
      by : Tie us first (SameEntry (new level barrier) w x found x) → Tie us (rest ++ first) (a ≡ b)
      by (inl t) = inl (forks_newer us first [] rest t)
      by (inr s) = no_end n table (index_of va level) level (barrier_with barrier x) (λ z. with_needed write level (barrier_with barrier x) x) x found s.1.1 deep mapped a
          (subst (λ z. EndsAt n table (index_of va level) level (barrier_with barrier z) z (new level barrier z) found a) s.1.0 f)
  path_tie _ _ _ _ _ (walks.goes level table barrier us first rest w deep mapped e more list) (walks.ends _ _ _ vs x other g h) =
      subst (λ z. Tie z vs (a ≡ b)) (sym list) (by (entry_tie (new level barrier) table (index_of va level) x w other w vs first g e))
    where
      by : Tie vs first (SameEntry (new level barrier) x w other w) → Tie (rest ++ first) vs (a ≡ b)
      by (inl t) = inl (forks_newer first vs rest [] (swapped vs first t))
      by (inr s) = no_end n table (index_of va level) level (barrier_with barrier w) (λ z. with_needed write level (barrier_with barrier w) w) w other s.1.1 deep mapped b
          (subst (λ z. EndsAt n table (index_of va level) level (barrier_with barrier z) z (new level barrier z) other b) s.1.0 h)
  path_tie _ _ _ _ _ (walks.goes level table barrier us first rest w deep mapped e more list) (walks.goes _ _ _ vs one others x far there g behind same) =
      tie_lists us vs _ _ _ list same
      (tie_then first one rest others (SameEntry (new level barrier) w x w x) (a ≡ b) (entry_tie (new level barrier) table (index_of va level) w x w x first one e g)
      (λ q s. path_tie (level - 1) (frame_of x) (barrier_with barrier x) rest others (subst (λ z. PathBy n va write a (level - 1) (frame_of z) (barrier_with barrier z) rest) s.0 more) behind))

  -- ---- the whole
  pub walk_tie : (s : ℕ) (user : Bool) (us vs : List Visit) → WalkBy n s user va write a us → WalkBy n s user va write b vs → Tie us vs (a ≡ b)
  walk_tie s user us vs (walks.barred x e f g) (walks.barred y h i j) = inr (g ∙ sym j, f ∙ (ap (λ z. Err (Refused z)) (let t = sym e ∙ h in some_same x y t) ∙ sym i))
    where
      some_same : (x y : Refusal) → ◌≡◌ {A = Option Refusal} (Some x) (Some y) → x ≡ y
      some_same x y e = cc
  walk_tie s user us vs (walks.barred x e f g) (walks.baseless h i j) = absurd (let t = sym e ∙ h in cc)
  walk_tie s user us vs (walks.barred x e f g) (walks.walks base h i j) = absurd (let t = sym e ∙ h in cc)
  walk_tie s user us vs (walks.baseless e f g) (walks.barred y h i j) = absurd (let t = sym e ∙ h in cc)
  walk_tie s user us vs (walks.baseless e f g) (walks.baseless h i j) = inr (g ∙ sym j, f ∙ sym i)
  walk_tie s user us vs (walks.baseless e f g) (walks.walks base h some t) =
      tie_lists us vs _ _ _ g (t.list ∙ ap (λ z. t.after ++ z) t.first) (inl (fork_here _ (Vcpu s (top_word user)) Load (Some (marks.Walk write)) 0 base [] t.after (λ z. some (sym z))))
  walk_tie s user us vs (walks.walks base h some t) (walks.barred x e f g) = absurd (let q = sym e ∙ h in cc)
  walk_tie s user us vs (walks.walks base h some t) (walks.baseless e f g) =
      tie_lists us vs _ _ _ (t.list ∙ ap (λ z. t.after ++ z) t.first) g (inl (fork_here _ (Vcpu s (top_word user)) Load (Some (marks.Walk write)) base 0 t.after [] some))
  walk_tie s user us vs (walks.walks base e some t) (walks.walks other h also q) =
      tie_lists us vs _ _ _ (t.list ∙ ap (λ z. t.after ++ z) t.first) (q.list ∙ ap (λ z. q.after ++ z) q.first)
      (tie_then (base_visit s user write base ∷ []) (base_visit s user write other ∷ []) t.after q.after (base ≡ other) (a ≡ b) (tie_one _ (Vcpu s (top_word user)) Load (Some (marks.Walk write)) base other)
      (λ z same. path_tie 4 (other - 1) None t.after q.after (subst (λ k. PathBy n va write a 4 (k - 1) None t.after) same t.next) q.next))
