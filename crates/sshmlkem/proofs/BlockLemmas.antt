-- The places of a layer by blocks of 2^s numbers, each s by itself.

use Rattle.std.proofs.Common.{◌≡◌, ◌≢◌, ℕ, ◌+◌, ◌-◌, ◌*◌, ◌/◌, ◌%◌, ◌^◌, ◌<◌, refl, arith}
use Rattle.sshmlkem.proofs.PlaceLemmas.{partner}
use Rattle.sshmlkem.specs.Ntt.{place}

-- places of a layer, for m = 2^s: k isn't the first of its block, or b is a block
pub record Places (s m : ℕ) : Type 0 where
  pub is : 2 ^ s ≡ m
  pub before : (k : ℕ) → k < 128 → k % m ≢ 0 → place s (k - 1) + 1 ≡ place s k
  pub same_block : (k : ℕ) → k < 128 → k % m ≢ 0 → (k - 1) / 2 ^ s ≡ k / 2 ^ s
  pub inside : (k : ℕ) → k < 128 → k % m ≢ 0 → place s k % (2 * m) ≢ 0
  pub inside_too : (k : ℕ) → k < 128 → partner s k % (2 * m) ≢ 0
  pub offset : (k : ℕ) → k < 128 → k % m ≡ 0 → place s k % m ≡ 0
  pub offset_too : (k : ℕ) → k < 128 → k % m ≡ 0 → partner s k % m ≡ 0
  pub low : (b : ℕ) → b * (2 * m) < 256 → b * m + (m - 1) < 128
  pub first : (b : ℕ) → b * (2 * m) < 256 → place s (b * m) ≡ b * (2 * m)
  pub middle : (b : ℕ) → b * (2 * m) < 256 → partner s (b * m) ≡ b * (2 * m) + m
  pub end_first : (b : ℕ) → b * (2 * m) < 256 → place s (b * m + (m - 1)) ≡ b * (2 * m) + (m - 1)
  pub end_second : (b : ℕ) → b * (2 * m) < 256 → partner s (b * m + (m - 1)) ≡ b * (2 * m) + (2 * m - 1)
  pub block : (b : ℕ) → b * (2 * m) < 256 → b * m / 2 ^ s ≡ b
  pub end_block : (b : ℕ) → b * (2 * m) < 256 → (b * m + (m - 1)) / 2 ^ s ≡ b
  pub half : (c : ℕ) → c * m < 256 → c / 2 * (2 * m) < 256
  pub even : (c : ℕ) → c % 2 ≡ 0 → c * m ≡ c / 2 * (2 * m)
  pub odd : (c : ℕ) → c % 2 ≢ 0 → c * m ≡ c / 2 * (2 * m) + m
  pub some : 1 < m
  pub starts : (k : ℕ) → k < 128 → k % m ≡ 0 → place s k % (2 * m) ≡ 0
  pub offset_back : (k : ℕ) → k < 128 → place s k % m ≡ 0 → k % m ≡ 0
  pub offset_back_too : (k : ℕ) → k < 128 → partner s k % m ≡ 0 → k % m ≡ 0

pub places_1 : Places 1 2
unfolding place
places_1 = record {
  is = refl;
  before = λ k l h. omega (arith, l, h);
  same_block = λ k l h. omega (arith, l, h);
  inside = λ k l h e. omega (arith, l, h, e);
  inside_too = λ k l e. omega (arith, l, e);
  offset = λ k l h. omega (arith, l, h);
  offset_too = λ k l h. omega (arith, l, h);
  low = λ b l. omega (arith, l);
  first = λ b l. omega (arith, l);
  middle = λ b l. omega (arith, l);
  end_first = λ b l. omega (arith, l);
  end_second = λ b l. omega (arith, l);
  block = λ b l. omega (arith, l);
  end_block = λ b l. omega (arith, l);
  half = λ c l. omega (arith, l);
  even = λ c h. omega (arith, h);
  odd = λ c h. omega (arith, h);
  some = omega arith;
  starts = λ k l h. omega (arith, l, h);
  offset_back = λ k l h. omega (arith, l, h);
  offset_back_too = λ k l h. omega (arith, l, h);
}

pub places_2 : Places 2 4
unfolding place
places_2 = record {
  is = refl;
  before = λ k l h. omega (arith, l, h);
  same_block = λ k l h. omega (arith, l, h);
  inside = λ k l h e. omega (arith, l, h, e);
  inside_too = λ k l e. omega (arith, l, e);
  offset = λ k l h. omega (arith, l, h);
  offset_too = λ k l h. omega (arith, l, h);
  low = λ b l. omega (arith, l);
  first = λ b l. omega (arith, l);
  middle = λ b l. omega (arith, l);
  end_first = λ b l. omega (arith, l);
  end_second = λ b l. omega (arith, l);
  block = λ b l. omega (arith, l);
  end_block = λ b l. omega (arith, l);
  half = λ c l. omega (arith, l);
  even = λ c h. omega (arith, h);
  odd = λ c h. omega (arith, h);
  some = omega arith;
  starts = λ k l h. omega (arith, l, h);
  offset_back = λ k l h. omega (arith, l, h);
  offset_back_too = λ k l h. omega (arith, l, h);
}

pub places_3 : Places 3 8
unfolding place
places_3 = record {
  is = refl;
  before = λ k l h. omega (arith, l, h);
  same_block = λ k l h. omega (arith, l, h);
  inside = λ k l h e. omega (arith, l, h, e);
  inside_too = λ k l e. omega (arith, l, e);
  offset = λ k l h. omega (arith, l, h);
  offset_too = λ k l h. omega (arith, l, h);
  low = λ b l. omega (arith, l);
  first = λ b l. omega (arith, l);
  middle = λ b l. omega (arith, l);
  end_first = λ b l. omega (arith, l);
  end_second = λ b l. omega (arith, l);
  block = λ b l. omega (arith, l);
  end_block = λ b l. omega (arith, l);
  half = λ c l. omega (arith, l);
  even = λ c h. omega (arith, h);
  odd = λ c h. omega (arith, h);
  some = omega arith;
  starts = λ k l h. omega (arith, l, h);
  offset_back = λ k l h. omega (arith, l, h);
  offset_back_too = λ k l h. omega (arith, l, h);
}

pub places_4 : Places 4 16
unfolding place
places_4 = record {
  is = refl;
  before = λ k l h. omega (arith, l, h);
  same_block = λ k l h. omega (arith, l, h);
  inside = λ k l h e. omega (arith, l, h, e);
  inside_too = λ k l e. omega (arith, l, e);
  offset = λ k l h. omega (arith, l, h);
  offset_too = λ k l h. omega (arith, l, h);
  low = λ b l. omega (arith, l);
  first = λ b l. omega (arith, l);
  middle = λ b l. omega (arith, l);
  end_first = λ b l. omega (arith, l);
  end_second = λ b l. omega (arith, l);
  block = λ b l. omega (arith, l);
  end_block = λ b l. omega (arith, l);
  half = λ c l. omega (arith, l);
  even = λ c h. omega (arith, h);
  odd = λ c h. omega (arith, h);
  some = omega arith;
  starts = λ k l h. omega (arith, l, h);
  offset_back = λ k l h. omega (arith, l, h);
  offset_back_too = λ k l h. omega (arith, l, h);
}

pub places_5 : Places 5 32
unfolding place
places_5 = record {
  is = refl;
  before = λ k l h. omega (arith, l, h);
  same_block = λ k l h. omega (arith, l, h);
  inside = λ k l h e. omega (arith, l, h, e);
  inside_too = λ k l e. omega (arith, l, e);
  offset = λ k l h. omega (arith, l, h);
  offset_too = λ k l h. omega (arith, l, h);
  low = λ b l. omega (arith, l);
  first = λ b l. omega (arith, l);
  middle = λ b l. omega (arith, l);
  end_first = λ b l. omega (arith, l);
  end_second = λ b l. omega (arith, l);
  block = λ b l. omega (arith, l);
  end_block = λ b l. omega (arith, l);
  half = λ c l. omega (arith, l);
  even = λ c h. omega (arith, h);
  odd = λ c h. omega (arith, h);
  some = omega arith;
  starts = λ k l h. omega (arith, l, h);
  offset_back = λ k l h. omega (arith, l, h);
  offset_back_too = λ k l h. omega (arith, l, h);
}

pub places_6 : Places 6 64
unfolding place
places_6 = record {
  is = refl;
  before = λ k l h. omega (arith, l, h);
  same_block = λ k l h. omega (arith, l, h);
  inside = λ k l h e. omega (arith, l, h, e);
  inside_too = λ k l e. omega (arith, l, e);
  offset = λ k l h. omega (arith, l, h);
  offset_too = λ k l h. omega (arith, l, h);
  low = λ b l. omega (arith, l);
  first = λ b l. omega (arith, l);
  middle = λ b l. omega (arith, l);
  end_first = λ b l. omega (arith, l);
  end_second = λ b l. omega (arith, l);
  block = λ b l. omega (arith, l);
  end_block = λ b l. omega (arith, l);
  half = λ c l. omega (arith, l);
  even = λ c h. omega (arith, h);
  odd = λ c h. omega (arith, h);
  some = omega arith;
  starts = λ k l h. omega (arith, l, h);
  offset_back = λ k l h. omega (arith, l, h);
  offset_back_too = λ k l h. omega (arith, l, h);
}

pub places_7 : Places 7 128
unfolding place
places_7 = record {
  is = refl;
  before = λ k l h. omega (arith, l, h);
  same_block = λ k l h. omega (arith, l, h);
  inside = λ k l h e. omega (arith, l, h, e);
  inside_too = λ k l e. omega (arith, l, e);
  offset = λ k l h. omega (arith, l, h);
  offset_too = λ k l h. omega (arith, l, h);
  low = λ b l. omega (arith, l);
  first = λ b l. omega (arith, l);
  middle = λ b l. omega (arith, l);
  end_first = λ b l. omega (arith, l);
  end_second = λ b l. omega (arith, l);
  block = λ b l. omega (arith, l);
  end_block = λ b l. omega (arith, l);
  half = λ c l. omega (arith, l);
  even = λ c h. omega (arith, h);
  odd = λ c h. omega (arith, h);
  some = omega arith;
  starts = λ k l h. omega (arith, l, h);
  offset_back = λ k l h. omega (arith, l, h);
  offset_back_too = λ k l h. omega (arith, l, h);
}
