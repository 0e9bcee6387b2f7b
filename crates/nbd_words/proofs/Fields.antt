-- Numbers at their places in bytes that were joined.
use Rattle.std.proofs.Common.{◌≡◌, ◌∙◌, ℕ, ◌+◌, ◌^◌, ◌<◌, List, [], ◌++◌, append-nil, take, drop, Some, lit<, refl, ap, sym, arith}
use Rattle.std.proofs.Math.Seq.{drop-append-add}
use Rattle.byteorder.specs.Endian.{big_bytes, big_from}
use Rattle.byteorder.specs.Numbers.{big_from-take, big_number-reads_back, length-bytes_high_first}
use Rattle.nbd_words.specs.Negotiation.{HasHeadInRange, big_number_at, option_head, option_head_in}
use Rattle.nbd_words.specs.declared.negotiation.OptionHead.{OptionHead}
use Rattle.nbd_words.specs.Transmission.{HasRequestInRange, request_bytes, request_in}
use Rattle.nbd_words.specs.declared.transmission.Request.{Request}

-- the first number
pub number-first : (n x : ℕ) (rest : List ℕ) → x < 256 ^ n → big_number_at (big_bytes n x ++ rest) 0 n ≡ x
number-first n x rest small = big_from-take 0 n n (big_bytes n x ++ rest) (omega arith) ∙ big_number-reads_back n x rest small

-- a number after another
pub number-next : (m x place n : ℕ) (rest : List ℕ) → big_number_at (big_bytes m x ++ rest) (m + place) n ≡ big_number_at rest place n
number-next m x place n rest =
    ap (λ (at : ℕ). big_from 0 n (take n (drop (at + place) (big_bytes m x ++ rest)))) (sym (length-bytes_high_first m x))
    ∙ ap (λ (l : List ℕ). big_from 0 n (take n l)) (drop-append-add (big_bytes m x) rest place)

-- the last number
pub number-last : (n x : ℕ) → x < 256 ^ n → big_number_at (big_bytes n x) 0 n ≡ x
number-last n x small =
    ap (λ (l : List ℕ). big_number_at l 0 n) (sym (append-nil (big_bytes n x))) ∙ number-first n x [] small

-- the request in bytes that have its numbers at their places
read-by : (bytes : List ℕ) (q : Request) → big_number_at bytes 0 4 ≡ 0x25609513 → big_number_at bytes 4 2 ≡ q.flags → big_number_at bytes 6 2 ≡ q.code
    → big_number_at bytes 8 8 ≡ q.cookie → big_number_at bytes 16 8 ≡ q.offset → big_number_at bytes 24 4 ≡ q.length → request_in bytes ≡ Some q
read-by bytes q first flags code cookie offset size = rw (first, flags, code, cookie, offset, size) refl

-- a request is read back from its bytes
pub request-reads_back : (q : Request) → HasRequestInRange q → request_in (request_bytes q) ≡ Some q
request-reads_back q fits =
    let magic : ℕ = 0x25609513 in
    let from_offset : List ℕ = big_bytes 8 q.offset ++ big_bytes 4 q.length in
    let from_cookie : List ℕ = big_bytes 8 q.cookie ++ from_offset in
    let from_code : List ℕ = big_bytes 2 q.code ++ from_cookie in
    let from_flags : List ℕ = big_bytes 2 q.flags ++ from_code in
    let first : big_number_at (request_bytes q) 0 4 ≡ magic = number-first 4 magic from_flags (lit< tt) in
    let flags : big_number_at (request_bytes q) 4 2 ≡ q.flags = number-next 4 magic 0 2 from_flags ∙ number-first 2 q.flags from_code fits.flags in
    let code : big_number_at (request_bytes q) 6 2 ≡ q.code =
    number-next 4 magic 2 2 from_flags ∙ number-next 2 q.flags 0 2 from_code ∙ number-first 2 q.code from_cookie fits.code in
    let cookie : big_number_at (request_bytes q) 8 8 ≡ q.cookie =
    number-next 4 magic 4 8 from_flags ∙ number-next 2 q.flags 2 8 from_code ∙ number-next 2 q.code 0 8 from_cookie ∙ number-first 8 q.cookie from_offset fits.cookie in
    let offset : big_number_at (request_bytes q) 16 8 ≡ q.offset =
    number-next 4 magic 12 8 from_flags ∙ number-next 2 q.flags 10 8 from_code ∙ number-next 2 q.code 8 8 from_cookie
    ∙ number-next 8 q.cookie 0 8 from_offset ∙ number-first 8 q.offset (big_bytes 4 q.length) fits.offset in
    let size : big_number_at (request_bytes q) 24 4 ≡ q.length =
    number-next 4 magic 20 4 from_flags ∙ number-next 2 q.flags 18 4 from_code ∙ number-next 2 q.code 16 4 from_cookie
    ∙ number-next 8 q.cookie 8 4 from_offset ∙ number-next 8 q.offset 0 4 (big_bytes 4 q.length) ∙ number-last 4 q.length fits.length in
    read-by (request_bytes q) q first flags code cookie offset size

-- the head of an option in bytes that have its numbers at their places
head-by : (bytes : List ℕ) (h : OptionHead) → big_number_at bytes 0 8 ≡ 0x49484156454f5054 → big_number_at bytes 8 4 ≡ h.code → big_number_at bytes 12 4 ≡ h.length → option_head_in bytes ≡ Some h
head-by bytes h first code size = rw (first, code, size) refl

-- the head of an option is read back from its bytes
pub option-reads_back : (h : OptionHead) → HasHeadInRange h → option_head_in (option_head h) ≡ Some h
option-reads_back h fits =
    let magic : ℕ = 0x49484156454f5054 in
    let from_code : List ℕ = big_bytes 4 h.code ++ big_bytes 4 h.length in
    let first : big_number_at (option_head h) 0 8 ≡ magic = number-first 8 magic from_code (lit< tt) in
    let code : big_number_at (option_head h) 8 4 ≡ h.code = number-next 8 magic 0 4 from_code ∙ number-first 4 h.code (big_bytes 4 h.length) fits.code in
    let size : big_number_at (option_head h) 12 4 ≡ h.length =
    number-next 8 magic 4 4 from_code ∙ number-next 4 h.code 0 4 (big_bytes 4 h.length) ∙ number-last 4 h.length fits.length in
    head-by (option_head h) h first code size
