-- A port as contracts see it: whose it is, what its vCPU holds, and the whole state where its board tells it.
use Rattle.std.specs.Prelude.{◌≡◌, ℕ, ◌==◌, ◌<◌, ◌&&◌, ◌⊎◌, not, is_some, Bool, true, false, List, [], ◌∷◌, length, slice_set, Option, Some, None}
use Rattle.atomic_table.specs.Seated.{TableId}
use Rattle.xp_words.specs.Machine.{Machine}
use Rattle.xp_words.specs.declared.place.Place.{Place}
use Rattle.xp_words.specs.Places.{sizes_of, size, memory}
use Rattle.xp_board.specs.declared.step.Step.{Step}
use Rattle.xp_board.specs.declared.step.Item.{Item}
use Rattle.xp_board.specs.declared.holdings.Made.{Made}
use Rattle.xp_board.specs.declared.holdings.Holdings.{Holdings}
use Rattle.xp_board.specs.Acts.{left_by}
use Rattle.xp_board.specs.Lists.{first_of}
use Rattle.xp_board.specs.Legal.{Legal}
use Rattle.xp_board.specs.After.{after}
use Rattle.xp_board.specs.Sound.{Sound}
use Rattle.xp_board.specs.Runs.{place_of}

-- which port it is: of which machine, vCPU and table, the run word with which that vCPU opened, and the name of the borrow that it holds
pub record Post : Type 0 where
  pub machine : Machine
  pub vcpu : ℕ
  pub run : ℕ
  pub lender : ℕ
  pub table : TableId

-- the words at the opening; all steps since, the newest first; and the words and the hands of all vCPUs
pub record Story : Type 0 where
  pub opening : List ℕ
  pub log : List (ℕ × Step)
  pub words : List ℕ
  pub hands : List Holdings

pub record PortValue : Type 0 where
  pub post : Post
  pub holdings : Holdings
  pub told : Option Story

-- what a board tells after a step, after which the vCPU holds h
abbrev pub tells : ℕ → Step → ℕ → Holdings → Option Story → Option Story
tells s x found h None = None
tells s x found h (Some story) =
    Some (record {
      opening = story.opening;
      log = (s, x) ∷ story.log;
      words = slice_set story.words x.place (left_by x.act found);
      hands = slice_set story.hands s h;
    })

-- a port after a step that found this word
abbrev pub stepped : PortValue → Step → ℕ → PortValue
stepped v x found =
    let h = after v.post.machine v.post.vcpu v.holdings x found in
    record { post = v.post; holdings = h; told = tells v.post.vcpu x found h v.told }

-- the own run word: as it was last found or left, or else as the vCPU opened
abbrev pub run_or : ℕ → Option ℕ → ℕ
run_or opened None = opened
run_or opened (Some w) = w

abbrev pub own_run : PortValue → ℕ
own_run v = run_or v.post.run v.holdings.run

-- the word found is that which the board told, and all words are told
abbrev pub IsTold : Machine → Option Story → Place → ℕ → Type 0
IsTold n None p found = Unit {0}
IsTold n (Some story) p found = (length story.words ≡ size (sizes_of n)) × (memory (sizes_of n) story.words p ≡ found)

-- whether the board tells all words, and the word that it tells (0 where it tells none)
abbrev pub is_telling : PortValue → Bool
is_telling v = is_some v.told

abbrev pub word_in : Machine → Option Story → Place → ℕ
word_in n None p = 0
word_in n (Some story) p = memory (sizes_of n) story.words p

abbrev pub told_word : PortValue → Place → ℕ
told_word v p = word_in v.post.machine v.told p

-- There is a sound state in which this vCPU has these holdings, and the word at that place is the one found.
-- This is all that a vCPU learns of the other vCPUs.
pub record Finds (n : Machine) (s : ℕ) (h : Holdings) (p : Place) (found : ℕ) : Type 0 where
  pub words : Place → ℕ
  pub hands : ℕ → Holdings
  pub real : s < (sizes_of n).vcpus
  pub sound : Sound n words hands
  pub mine : hands s ≡ h
  pub word : words p ≡ found

-- the newest cached translation of the page
abbrev pub is_item : Bool → ℕ → Item → Bool
is_item true page x = x.user && (x.page == page)
is_item false page x = not x.user && (x.page == page)

abbrev pub cached_item : Bool → ℕ → List Item → Option Item
cached_item user page xs = first_of (is_item user page) xs

-- From v the port may come to w by these legal steps, the newest first. Each finds the word that the board told.
abbrev pub Went : PortValue → List Made → PortValue → Type 0
Went v [] w = w ≡ v
Went v (x ∷ xs) w =
    (u : PortValue) × Went v xs u × Legal u.post.machine u.post.vcpu u.holdings x.step
    × IsTold u.post.machine u.told (place_of u.post.machine x.step) x.found × (w ≡ stepped u x.step x.found)

-- the port came from v to w by legal steps
unfoldable pub Goes : PortValue → PortValue → Type 0
Goes v w = (made : List Made) × Went v made w

abbrev pub Had : Machine → Place → ℕ → List Made → Type 0
Had n p word [] = ⊥
Had n p word (x ∷ xs) = ((place_of n x.step ≡ p) × (x.found ≡ word)) ⊎ Had n p word xs

-- the port came from v to w by legal steps, one of which found this word at that place
unfoldable pub Saw : PortValue → PortValue → Place → ℕ → Type 0
Saw v w p word = (made : List Made) × Went v made w × Had v.post.machine p word made
