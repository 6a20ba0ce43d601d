-- The answer to any byte string: a record of a type that we read, the name of a known type that we do not read, or a refusal.
use Rattle.std.specs.Prelude.{ℕ, List, [], ◌∷◌, cond}
use Rattle.std.proofs.Math.Option.{Option, none, some}
use Rattle.text.specs.Bytes.{bytes}
use Rattle.text.specs.Value.{Value, value, syntax, fault, is}
use Rattle.frame.specs.Refused.{Refused, syntax_error, unknown_talker, system_mismatch, wrong_header, faulted}
use Rattle.frame.specs.Types.{alike}
use Rattle.frame.specs.Frame.{Parts, Outcome, accepted, refused, frame}
use Rattle.gsv.specs.Talker.{Talker, talker_of}
use Rattle.gsv.specs.Gsv.{Gsv, gsv, GsvSentence}
use Rattle.gsa.specs.System.{Settled, is as settled_as, mismatch, named, settle}
use Rattle.gsa.specs.Gsa.{Gsa, gsa}
use Rattle.rmc.specs.Rmc.{Rmc, rmc}
use Rattle.gga.specs.Gga.{Gga, gga}
use Rattle.gll.specs.Gll.{Gll, gll}
use Rattle.vtg.specs.Vtg.{Vtg, vtg}

-- a sentence: its talker and its data; of GSA the system is settled between the two
pub record Sentence (A : Type 0) : Type 0 where
  pub talker : List ℕ
  pub body : A

-- a sentence of a known type that we do not read: its talker and its type
pub record OtherSentence : Type 0 where
  pub talker : List ℕ
  pub kind : List ℕ

pub data Answer : Type 0 where
  is_rmc : Sentence Rmc → Answer
  is_gsa : Sentence Gsa → Answer
  is_gsv : GsvSentence → Answer
  is_gga : Sentence Gga → Answer
  is_gll : Sentence Gll → Answer
  is_vtg : Sentence Vtg → Answer
  is_other : OtherSentence → Answer
  is_refused : Refused → Answer

-- what a reader of data ends in, where it reads no record
abbrev pub or_refused : {A : Type 0} → (A → Answer) → Value A → Answer
or_refused f syntax = is_refused syntax_error
or_refused f (fault x) = is_refused (faulted x)
or_refused f (is a) = f a

-- parse_rmc of a framed sentence
abbrev pub as_rmc : List ℕ → Rmc → Answer
as_rmc t d = is_rmc (record { talker = t; body = d })

abbrev pub rmc_of : Parts → Answer
rmc_of p = or_refused (as_rmc p.talker) (value (rmc p.text))

-- parse_gga
abbrev pub as_gga : List ℕ → Gga → Answer
as_gga t d = is_gga (record { talker = t; body = d })

abbrev pub gga_of : Parts → Answer
gga_of p = or_refused (as_gga p.talker) (value (gga p.text))

-- parse_gll
abbrev pub as_gll : List ℕ → Gll → Answer
as_gll t d = is_gll (record { talker = t; body = d })

abbrev pub gll_of : Parts → Answer
gll_of p = or_refused (as_gll p.talker) (value (gll p.text))

-- parse_vtg
abbrev pub as_vtg : List ℕ → Vtg → Answer
as_vtg t d = is_vtg (record { talker = t; body = d })

abbrev pub vtg_of : Parts → Answer
vtg_of p = or_refused (as_vtg p.talker) (value (vtg p.text))

abbrev pub gsa_names : List ℕ → Option ℕ
gsa_names [] = none
gsa_names (a ∷ []) = none
gsa_names (a ∷ b ∷ l) = named a b

abbrev pub with_system : Gsa → Option ℕ → Gsa
with_system g s = record { mode = g.mode; fix = g.fix; satellites = g.satellites; dops = g.dops; system = s }

-- "two different ones are 8; an absent one is taken from the talker"
abbrev pub settled_gsa : List ℕ → Gsa → Settled → Answer
settled_gsa t g (settled_as s) = is_gsa (record { talker = t; body = with_system g s })
settled_gsa t g (mismatch m n) = is_refused (system_mismatch m n)

-- parse_gsa of a framed sentence: the data first, then the system
abbrev pub as_gsa : List ℕ → Gsa → Answer
as_gsa t g = settled_gsa t g (settle (gsa_names t) g.system)

abbrev pub gsa_of : Parts → Answer
gsa_of p = or_refused (as_gsa p.talker) (value (gsa p.text))

abbrev pub gsv_names : List ℕ → Option Talker
gsv_names [] = none
gsv_names (a ∷ []) = none
gsv_names (a ∷ b ∷ l) = talker_of a b

abbrev pub as_gsv : Talker → Gsv → Answer
as_gsv t g = is_gsv (record { talker = t; body = g })

-- "The talker decides before the body .. else 7"
abbrev pub gsv_by : Option Talker → Parts → Answer
gsv_by none p = is_refused (unknown_talker p.talker)
gsv_by (some t) p = or_refused (as_gsv t) (value (gsv p.text))

-- parse_gsv of a framed sentence
abbrev pub gsv_of : Parts → Answer
gsv_of p = gsv_by (gsv_names p.talker) p

-- what is framed is read, and a refusal of the framing stands
abbrev pub framed_by : (Parts → Answer) → Outcome → Answer
framed_by r (accepted p) = r p
framed_by r (refused x) = is_refused x

-- the three letters behind the talker; six types are read
pub data Formatter : Type 0 where
  rmc_type : Formatter
  gsa_type : Formatter
  gsv_type : Formatter
  gga_type : Formatter
  gll_type : Formatter
  vtg_type : Formatter
  other_type : Formatter

unfoldable pub formatter_of : List ℕ → Formatter
formatter_of k =
    cond (alike k (bytes "RMC")) rmc_type
    (cond (alike k (bytes "GSA")) gsa_type
    (cond (alike k (bytes "GSV")) gsv_type
    (cond (alike k (bytes "GGA")) gga_type
    (cond (alike k (bytes "GLL")) gll_type
    (cond (alike k (bytes "VTG")) vtg_type other_type)))))

abbrev pub read_as : Formatter → Parts → Answer
read_as rmc_type p = rmc_of p
read_as gsa_type p = gsa_of p
read_as gsv_type p = gsv_of p
read_as gga_type p = gga_of p
read_as gll_type p = gll_of p
read_as vtg_type p = vtg_of p
read_as other_type p = is_other (record { talker = p.talker; kind = p.kind })

-- the dispatch of parse_str
unfoldable pub dispatch : Parts → Answer
dispatch p = read_as (formatter_of p.kind) p

-- parse_bytes
unfoldable pub answer : List ℕ → Answer
answer l = framed_by dispatch (frame l)

-- "1 to 6 stand first, then WrongHeader for any other known type, then its own refusals"
abbrev pub of_type : List ℕ → Parts → Answer
of_type name p = cond (alike p.kind name) (dispatch p) (is_refused (wrong_header name p.kind))

-- parse_rmc and its like: a line that must be of the type of this name
unfoldable pub parse_as : List ℕ → List ℕ → Answer
parse_as name l = framed_by (of_type name) (frame l)

-- the refusal that an answer is, if it is one
abbrev pub verdict_of : Answer → Option Refused
verdict_of (is_rmc r) = none
verdict_of (is_gsa g) = none
verdict_of (is_gsv g) = none
verdict_of (is_gga g) = none
verdict_of (is_gll g) = none
verdict_of (is_vtg v) = none
verdict_of (is_other k) = none
verdict_of (is_refused r) = some r
