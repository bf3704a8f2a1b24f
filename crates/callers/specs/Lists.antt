-- The parameter list of REBUILD and REGENERATE as bytes, and what the step reads from them.
use Rattle.std.specs.Prelude.{ℕ, zero, suc, ◌+◌, ◌*◌, ◌<◌, ◌≡◌, refl, take, drop}
use Rattle.std.proofs.Common.{not-suc-le-zero, mul-suc, add-zero, sym, ◌∙◌, lit≤}
use native.Mathlib.Omega.{arith}
use Rattle.std.proofs.Math.Path.{ap, ap₂}
use mathlib.Core.List.{List, [], ◌∷◌, ◌++◌}
use Rattle.std.proofs.Math.ListN.{length, get_or}
use Rattle.std.proofs.Math.Seq.{drop-append-add}
use Rattle.folds.specs.Each.{EachIs, each_at}
use Rattle.octets.specs.Part.{part, part_part, take_part}
use Rattle.octets.specs.Number.{num, to_be, be, num_to_be_lt}
use Rattle.command.specs.declared.Source.{Source}
use Rattle.command.specs.Command.{source_of}

-- ---- the bytes

abbrev pub source : ℕ → ℕ → Source
source address block = record { address = record { 0 = address }; block = record { 0 = block } }

-- "then 8 bytes per source: address, block"
abbrev pub entry_bytes : Source → List ℕ
entry_bytes e = to_be 4 e.address.0 ++ to_be 4 e.block.0

-- and then the bytes d
abbrev pub entries_bytes : List Source → List ℕ → List ℕ
entries_bytes [] d = d
entries_bytes (e ∷ es) d = entry_bytes e ++ entries_bytes es d

-- "byte 0 number of sources, 1 entry type (01), 2-3 zero, 4-7 own block"
abbrev pub head_bytes : ℕ → ℕ → List ℕ
head_bytes n block = n ∷ 1 ∷ 0 ∷ 0 ∷ to_be 4 block

-- the list of the sources es with this own block, and the intermediate data d, which "starts right after the list"
abbrev pub list_of : ℕ → List Source → List ℕ → List ℕ
list_of block es d = head_bytes (length es) block ++ entries_bytes es d

-- ---- what is read

-- the sources that data-out bytes name, "8 bytes per source": the entries left, from entry i on
unfoldable pub entries_from : List ℕ → ℕ → ℕ → List Source
entries_from s i zero = []
entries_from s i (suc left) = source_of s i ∷ entries_from s (i + 1) left

-- "byte 0 number of sources"
abbrev pub entries_of : List ℕ → List Source
entries_of s = entries_from s 0 (get_or s 0 0)

-- what "starts right after the list"
abbrev pub behind : List ℕ → List ℕ
behind s = drop (8 + 8 * get_or s 0 0) s

pub entries_long : (s : List ℕ) (i left : ℕ) → length (entries_from s i left) ≡ left
unfolding entries_from
entries_long s i zero = refl
entries_long s i (suc left) = ap suc (entries_long s (i + 1) left)

-- what is known of each entry that is read
pub each_entry : (P : Source → Type 0) (s : List ℕ) (i left : ℕ) → ((j : ℕ) → j < i + left → P (source_of s j)) → EachIs P (entries_from s i left)
unfolding entries_from
each_entry P s i zero h = tt
each_entry P s i (suc left) h = (h i (omega arith), each_entry P s (i + 1) left (λ j l. h j (omega arith)))

-- the bytes s start with the head of a list of n sources with this own block
pub record Headed (s : List ℕ) (n block : ℕ) : Type 0 where
  pub number : get_or s 0 0 ≡ n
  pub type : get_or s 1 0 ≡ 1
  pub zeros : be 2 s 2 ≡ 0
  pub own : be 4 s 4 ≡ block

pub record Fitting (e : Source) : Type 0 where
  pub address_small : e.address.0 < 4294967296
  pub block_small : e.block.0 < 4294967296

length_entries : (es : List Source) (d : List ℕ) → length (entries_bytes es d) ≡ 8 * length es + length d
unfolding to_be
length_entries [] d = omega arith
length_entries (e ∷ es) d = let q = length_entries es d in omega (arith, mul-suc 8 (length es))

-- the bytes of entry i
entry_bytes_lem : (es : List Source) (d : List ℕ) (i : ℕ) → i < length es → part (entries_bytes es d) (8 * i) 8 ≡ entry_bytes (get_or es i (source 0 0))
unfolding part to_be
entry_bytes_lem [] d i l = absurd (not-suc-le-zero l)
entry_bytes_lem (e ∷ es) d zero l = refl
entry_bytes_lem (e ∷ es) d (suc i) l =
    let q : 8 * suc i ≡ 8 + 8 * i = omega (arith, mul-suc 8 i) in
    ap (λ (k : ℕ). take 8 (drop k (entries_bytes (e ∷ es) d))) q
    ∙ ap (take 8) (drop-append-add (entry_bytes e) (entries_bytes es d) (8 * i))
    ∙ entry_bytes_lem es d i (omega arith)

drop_entries : (es : List Source) (d : List ℕ) → drop (8 * length es) (entries_bytes es d) ≡ d
unfolding to_be
drop_entries [] d = refl
drop_entries (e ∷ es) d =
    let q : 8 * suc (length es) ≡ 8 + 8 * length es = omega (arith, mul-suc 8 (length es)) in
    ap (λ (k : ℕ). drop k (entries_bytes (e ∷ es) d)) q
    ∙ drop-append-add (entry_bytes e) (entries_bytes es d) (8 * length es)
    ∙ drop_entries es d

-- entries that are read one by one
entries_are : (s : List ℕ) (es : List Source) (i : ℕ) → ((j : ℕ) → j < length es → source_of s (i + j) ≡ get_or es j (source 0 0)) → entries_from s i (length es) ≡ es
unfolding entries_from
entries_are s [] i h = refl
entries_are s (e ∷ es) i h =
    ap₂ (λ (x : Source) (xs : List Source). x ∷ xs) (ap (source_of s) (sym (add-zero i)) ∙ h 0 (omega arith))
    (entries_are s es (i + 1) (λ j l. let q : i + 1 + j ≡ i + suc j = omega arith in rw q (h (suc j) (omega arith))))

module _ (block : ℕ) (es : List Source) (d : List ℕ) where
  abbrev list : List ℕ
  list = list_of block es d

  pub list_long : length list ≡ 8 + 8 * length es + length d
  unfolding to_be
  list_long = let q = length_entries es d in omega arith

  pub list_headed : block < 4294967296 → Headed list (length es) block
  unfolding part num to_be
  list_headed small = record { number = refl; type = refl; zeros = refl; own = num_to_be_lt 4 block small }

  entry_in : (i : ℕ) → i < length es → part list (8 + 8 * i) 8 ≡ entry_bytes (get_or es i (source 0 0))
  unfolding part to_be
  entry_in i l = ap (take 8) (drop-append-add (head_bytes (length es) block) (entries_bytes es d) (8 * i)) ∙ entry_bytes_lem es d i l

  -- entry i is the source that was written
  pub list_source : (i : ℕ) → i < length es → Fitting (get_or es i (source 0 0)) → source_of list i ≡ get_or es i (source 0 0)
  unfolding source_of to_be part
  list_source i l h =
      let e = get_or es i (source 0 0) in
      ap₂ source
      (ap num (sym (take_part list (8 + 8 * i) 8 4 (lit≤ tt)) ∙ ap (take 4) (entry_in i l)) ∙ num_to_be_lt 4 e.address.0 h.address_small)
      (ap num (sym (part_part list (8 + 8 * i) 8 4 4 (lit≤ tt)) ∙ ap (λ (r : List ℕ). part r 4 4) (entry_in i l)) ∙ num_to_be_lt 4 e.block.0 h.block_small)

  pub list_entries : EachIs Fitting es → entries_of list ≡ es
  list_entries fit = entries_are list es 0 (λ j l. let e : 0 + j ≡ j = omega arith in rw e (list_source j l (each_at Fitting es (source 0 0) fit j l)))

  -- and the intermediate data is what stands behind
  pub list_behind : behind list ≡ d
  unfolding to_be
  list_behind = drop-append-add (head_bytes (length es) block) (entries_bytes es d) (8 * length es) ∙ drop_entries es d
