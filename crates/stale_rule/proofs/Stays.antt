-- Fresh holds on where no more is reached than before, and what is reached bears the change.
use Rattle.std.proofs.Common.{◌≡◌, ℕ, ◌<◌, ◌≤◌, ◌⊎◌, inl, inr, true, sym, ◌∙◌, ap, subst, arith, IsTrue, Option, Some, None}
use Rattle.xp_words.specs.Machine.{Machine}
use Rattle.xp_words.specs.declared.place.Place.{Place}
use Rattle.xp_words.specs.declared.place.Place.TheVariants.{Refs, Priv}
use Rattle.xp_words.specs.Places.{sizes_of, flushed_of}
use Rattle.xp_board.specs.declared.holdings.Holdings.{Holdings}
use Rattle.xp_board.specs.Readings.{kind_at, is_free, free_stamp, owner_of, domain_of, has_ever}
use Rattle.xp_board.specs.Hands.{claims_of}
use Rattle.xp_board.specs.Valid.{Permits, PermitsOwner}
use Rattle.xp_board.specs.Reach.{Use, Table, Writes, Reads, Reach}
use Rattle.xp_board.specs.Fresh.{Belongs, Bears, Awaited, FreshAt, Fresh}

-- ---- a reference word
-- it has the owner that it had, and is free as it was
pub record RefKept (w w2 : ℕ) : Type 0 where
  pub owner : owner_of w2 ≡ owner_of w
  pub free : is_free w2 ≡ is_free w
  pub stamp : free_stamp w2 ≡ free_stamp w

-- or it is free now, with a stamp that the vCPU has not been flushed past
pub record RefFreed (flushed w2 : ℕ) : Type 0 where
  pub owner : owner_of w2 ≡ None
  pub free : is_free w2 ≡ true
  pub stamp : flushed ≤ free_stamp w2

abbrev pub RefStays : ℕ → ℕ → ℕ → Type 0
RefStays flushed w w2 = RefKept w w2 ⊎ RefFreed flushed w2

pub ref_same : (w w2 : ℕ) → w2 ≡ w → RefKept w w2
ref_same w w2 e = record { owner = ap owner_of e; free = ap is_free e; stamp = ap free_stamp e }

-- ---- permits
-- a privilege that was had is had
abbrev pub KeepsEver : (Place → ℕ) → (Place → ℕ) → Type 0
KeepsEver m m2 = (d o : ℕ) → IsTrue (has_ever o (m (Priv d))) → IsTrue (has_ever o (m2 (Priv d)))

pub ever_same : (m m2 : Place → ℕ) → ((d : ℕ) → m2 (Priv d) ≡ m (Priv d)) → KeepsEver m m2
ever_same m m2 e d o ever = subst (λ w. IsTrue (has_ever o w)) (sym (e d)) ever

permits_kept : (m m2 : Place → ℕ) (d : ℕ) (o : Option ℕ) → KeepsEver m m2 → PermitsOwner m d o → PermitsOwner m2 d o
permits_kept m m2 d (Some o) e (inl own) = inl own
permits_kept m m2 d (Some o) e (inr ever) = inr (e d o ever)
permits_kept m m2 d None e p = tt

frame_permits : (m m2 : Place → ℕ) (d g flushed : ℕ) → KeepsEver m m2 → RefStays flushed (m (Refs g)) (m2 (Refs g)) → Permits m d g → Permits m2 d g
frame_permits m m2 d g flushed e (inl kept) p = subst (λ o. PermitsOwner m2 d o) (sym kept.owner) (permits_kept m m2 d (owner_of (m (Refs g))) e p)
frame_permits m m2 d g flushed e (inr freed) p = subst (λ o. PermitsOwner m2 d o) (sym freed.owner) tt

belongs_kept : (m m2 : Place → ℕ) (d g flushed : ℕ) (u : Use) → KeepsEver m m2 → RefStays flushed (m (Refs g)) (m2 (Refs g)) → Belongs m d g u → Belongs m2 d g u
belongs_kept m m2 d g flushed (Table level) e (inl kept) (inl free) = inl (kept.free ∙ free)
belongs_kept m m2 d g flushed (Table level) e (inl kept) (inr own) = inr (kept.owner ∙ own)
belongs_kept m m2 d g flushed (Table level) e (inr freed) old = inl freed.free
belongs_kept m m2 d g flushed Writes e kept p = frame_permits m m2 d g flushed e kept p
belongs_kept m m2 d g flushed Reads e kept p = frame_permits m m2 d g flushed e kept p

stamp_kept : (flushed w w2 : ℕ) → RefStays flushed w w2 → (IsTrue (is_free w) → flushed ≤ free_stamp w) → IsTrue (is_free w2) → flushed ≤ free_stamp w2
stamp_kept flushed w w2 (inl kept) old e = let was = old (sym kept.free ∙ e) in let stamp = kept.stamp in omega arith
stamp_kept flushed w w2 (inr freed) old e = freed.stamp

-- ---- what a step leaves of one frame that a vCPU can come to
pub record Bearable (n : Machine) (m m2 : Place → ℕ) (h h2 : ℕ → Holdings) (v g : ℕ) (u : Use) : Type 0 where
  pub flush : m2 (flushed_of v) ≡ m (flushed_of v)
  pub ref : RefStays (m (flushed_of v)) (m (Refs g)) (m2 (Refs g))
  pub kind : Bears (m (flushed_of v)) (kind_at m g) u → Bears (m (flushed_of v)) (kind_at m2 g) u
  pub claims : (t : ℕ) → t < (sizes_of n).vcpus → claims_of g (h t).claimed ≡ 0 → claims_of g (h2 t).claimed ≡ 0
  pub awaits : (t : ℕ) → t < (sizes_of n).vcpus → Awaited (sizes_of n) (m (flushed_of v)) g u (h t) → Awaited (sizes_of n) (m (flushed_of v)) g u (h2 t)

pub fresh_at : (n : Machine) (m m2 : Place → ℕ) (h h2 : ℕ → Holdings) (v g : ℕ) (u : Use) → KeepsEver m m2 → Bearable n m m2 h h2 v g u →
    FreshAt n m h v g u → FreshAt n m2 h2 v g u
fresh_at n m m2 h h2 v g u ever bears old =
    record {
      owner = belongs_kept m m2 (domain_of n v) g (m (flushed_of v)) u ever bears.ref old.owner;
      free = rw bears.flush (stamp_kept (m (flushed_of v)) (m (Refs g)) (m2 (Refs g)) bears.ref old.free);
      unclaimed = λ t real. bears.claims t real (old.unclaimed t real);
      bears = rw bears.flush (bears.kind old.bears);
      awaited = λ t real. rw bears.flush (bears.awaits t real (old.awaited t real));
    }

pub fresh_law : (n : Machine) (m m2 : Place → ℕ) (h h2 : ℕ → Holdings) → KeepsEver m m2 →
    ((v g : ℕ) (u : Use) → v < (sizes_of n).vcpus → Reach (sizes_of n) m2 (h2 v) g u → Reach (sizes_of n) m (h v) g u) →
    ((v g : ℕ) (u : Use) → v < (sizes_of n).vcpus → Reach (sizes_of n) m2 (h2 v) g u → Reach (sizes_of n) m (h v) g u → Bearable n m m2 h h2 v g u) →
    Fresh n m h → Fresh n m2 h2
fresh_law n m m2 h h2 ever before bears fresh =
    record {
      each = λ v real g u r. let old = before v g u real r in fresh_at n m m2 h h2 v g u ever (bears v g u real r old) (fresh.each v real g u old);
      one_use = λ v w g t u real other r q. fresh.one_use v w g t u real other (before v g t real r) (before w g u other q);
    }
