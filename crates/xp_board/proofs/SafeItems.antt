-- Cached translations of a sound machine lead nowhere that they must not.
use Rattle.std.proofs.Common.{◌≡◌, ◌<◌, ℕ, Bool, true, false, refl, arith, inl, inr}
use Rattle.std.proofs.lemmas.Bool.{cases_Bool}
use Rattle.std.proofs.lemmas.Bool.Decides.{nat_tests}
use Rattle.xp_words.specs.declared.kind.KindWord.{KindWord}
use Rattle.xp_words.specs.Machine.{Machine}
use Rattle.xp_words.specs.declared.place.Place.{Place}
use Rattle.xp_words.specs.Places.{sizes_of}
use Rattle.xp_board.specs.declared.step.Item.{Item}
use Rattle.xp_board.specs.declared.holdings.Holdings.{Holdings}
use Rattle.xp_board.specs.Lists.{Member}
use Rattle.xp_board.specs.Readings.{domain_of}
use Rattle.xp_board.specs.Valid.{Permits}
use Rattle.xp_board.specs.Reach.{Writes, cached, use_of, is_in_use}
use Rattle.xp_board.specs.Fresh.{Belongs, Bears}
use Rattle.xp_board.specs.Safe.{SafeAt}
use Rattle.xp_board.specs.Sound.{Sound}
use Rattle.xp_board.proofs.KindForms.{live_unmarked}

unused_marked : (k : KindWord) → k.unflushed ≡ true → (k.validated ≡ true → k.unflushed ≡ false) → is_in_use k ≡ false
unused_marked k marked live = elim (cases_Bool k.validated) [ inl hit ↦ absurd (let u = live hit in cc) | inr miss ↦ grind (arith, nat_tests) ]

-- a frame that may be written through a translation is no table or descriptor page in use
unused_by : (flushed : ℕ) (k : KindWord) → Bears flushed k Writes → (k.validated ≡ true → k.unflushed ≡ false) → is_in_use k ≡ false
unused_by flushed k bears live =
    elim (bears.typed (λ e. cc)) [
      | inl fits ↦ let t = fits.1 in grind (arith, t, nat_tests)
      | inr marked ↦ let u = marked.0 in unused_marked k u live
    ]

permits_by : (m : Place → ℕ) (d g : ℕ) (b : Bool) (x : Item) → x.writable ≡ b → Belongs m d g (use_of x) → Permits m d g
permits_by m d g true x e p = rw e at p
permits_by m d g false x e p = rw e at p

bears_by : (flushed : ℕ) (k : KindWord) (x : Item) → x.writable ≡ true → Bears flushed k (use_of x) → Bears flushed k Writes
bears_by flushed k x e b = rw e at b

pub items_safe : (n : Machine) (m : Place → ℕ) (h : ℕ → Holdings) (v : ℕ) (x : Item) → Sound n m h → v < (sizes_of n).vcpus → Member x (h v).cache → SafeAt n m v x.writable x.frame
items_safe n m h v x sound real there =
    let at = sound.fresh.each v real x.frame (use_of x) (cached x there) in
    record {
      unused = λ e. unused_by _ _ (bears_by _ _ x e at.bears) (live_unmarked n m x.frame sound.spelled);
      permitted = permits_by m (domain_of n v) x.frame x.writable x refl at.owner;
    }
