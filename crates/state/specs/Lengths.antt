-- The lengths of the seven kinds of state. Each kind's opening and each kind's test of wholeness cite these.
use Rattle.std.specs.Prelude.{ℕ, ◌+◌, ◌*◌, ◌/◌, ◌≡◌, Bool, true, ◌&&◌, leb}

-- list queues: 1 to 32 classes, 0 to 224 entries
abbrev pub lists_allowed : ℕ → ℕ → Bool
lists_allowed classes entries = leb 1 classes && (leb classes 32 && leb entries 224)

abbrev pub lists_length : ℕ → ℕ → ℕ
lists_length classes entries = 2 + 2 * (classes + entries)

-- key queues: keys 0 to `k_max`, at most 8,191, and 0 to 222 entries
abbrev pub keys_allowed : ℕ → ℕ → Bool
keys_allowed k_max entries = leb k_max 8191 && leb entries 222

abbrev pub keys_length : ℕ → ℕ → ℕ
keys_length k_max entries = 11 + 8 * entries + 4 * ((k_max + 1) / 4)

-- the five registries
abbrev pub regular_length : ℕ
regular_length = 1036

abbrev pub loop_back_length : ℕ
loop_back_length = 389

abbrev pub requests_length : ℕ
requests_length = 385

abbrev pub messages_length : ℕ
messages_length = 1062

abbrev pub responses_length : ℕ
responses_length = 677

-- a filter image, which is no state
abbrev pub image_length : ℕ
image_length = 1024

pub data Kind : Type 0 where
  Regular LoopBack Requests Messages Responses Lists Keys : Kind

-- the kind has the length at some size
pub data Has : Kind → ℕ → Type 0 where
  regular : Has Regular regular_length
  loop-back : Has LoopBack loop_back_length
  requests : Has Requests requests_length
  messages : Has Messages messages_length
  responses : Has Responses responses_length
  lists : (classes entries : ℕ) → lists_allowed classes entries ≡ true → Has Lists (lists_length classes entries)
  keys : (k_max entries : ℕ) → keys_allowed k_max entries ≡ true → Has Keys (keys_length k_max entries)

-- no length is that of two kinds, and none is that of an image
pub record Disjoint : Type 0 where
  pub one_kind : (j k : Kind) (n : ℕ) → Has j n → Has k n → j ≡ k
  pub no_image : (k : Kind) (n : ℕ) → Has k n → n ≡ image_length → ⊥
