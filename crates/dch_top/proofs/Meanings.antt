-- A text is one number at most, and words say one thing at most.
use Rattle.std.proofs.Common.{◌≡◌, ◌<◌, ◌^◌, ◌∙◌, ℕ, List, Option, Some, None, Result, Ok, Bool, true, false, true≢false, is_some, ap, sym, subst, refl, IfSome, IfNone, codes, arith}
use Rattle.std.specs.Prelude.{◌==◌, if◌then◌else◌, slice_index}
use Rattle.std.specs.Str.Parse.{ParsesUnsigned}
use Rattle.std.proofs.lemmas.Fmt.{decimal_injective, parse-decimal}
use Rattle.clap.specs.Words.{Row, Text, first_of, matches_of}
use Rattle.dch_top.specs.declared.arguments.Subcommand.{Subcommand}
use Rattle.dch_top.specs.declared.arguments.Subcommand.TheVariants.{Check, Encode, NodeB, Rnc, Ue, Link, Gen, Pair, Soft}
use Rattle.dch_top.specs.declared.arguments.Arguments.{Arguments}
use Rattle.dch_top.specs.Line.{IsTaken, line_app}
use Rattle.dch_top.specs.Parses.{IsCommand, IsCount, IsNumber, IsNumberOr, Means, Parses, subcommand_name}

-- a text that is a number is read as that number
pub number_read : {E : Type 0} (least most : ℕ) (text : Text) (read : Result ℕ E) → most < 2 ^ 32
    → ParsesUnsigned 32 10 text read → (n : ℕ) → IsNumber least most text n → read ≡ Ok n
number_read least most text read fits parses n is = parse-decimal 32 n text read (omega arith) (omega arith) is.0 parses

-- a word gives one number at most
one_number : (default least most : ℕ) (word : Option Text) (m n : ℕ) → most < 2 ^ 32
    → IsNumberOr default least most word m → IsNumberOr default least most word n → m ≡ n
one_number default least most None m n fits first second = first ∙ sym second
one_number default least most (Some text) m n fits first second =
    decimal_injective m n (omega arith) (omega arith) (sym first.0 ∙ second.0)

-- a command has one count at most
one_count : (v : Subcommand) (word : Option Text) (m n : ℕ) → IsCount v word m → IsCount v word n → m ≡ n
one_count Soft None m n first second = elim first [ ]
one_count Soft (Some text) m n first second = one_number 1000 1 6 (Some text) m n (omega arith) first second
one_count Check word m n first second = one_number 1000 1 100000 word m n (omega arith) first second
one_count Encode word m n first second = one_number 1000 1 100000 word m n (omega arith) first second
one_count NodeB word m n first second = one_number 1000 1 100000 word m n (omega arith) first second
one_count Rnc word m n first second = one_number 1000 1 100000 word m n (omega arith) first second
one_count Ue word m n first second = one_number 1000 1 100000 word m n (omega arith) first second
one_count Link word m n first second = one_number 1000 1 100000 word m n (omega arith) first second
one_count Gen word m n first second = one_number 1000 1 100000 word m n (omega arith) first second
one_count Pair word m n first second = one_number 1000 1 100000 word m n (omega arith) first second

-- the count of a command, as another says it
pub same_count : (v w : Subcommand) (word other : Option Text) (n : ℕ) → v ≡ w → word ≡ other → IsCount v word n → IsCount w other n
same_count v w word other n command same is = subst (λ x. IsCount x other n) command (subst (λ o. IsCount v o n) same is)

-- the commands differ in their first letters
abbrev subcommand_of : Text → Subcommand
subcommand_of name = let first : ℕ = slice_index name 0 in if first == 99 then Check else (if first == 101 then Encode else (if first == 110 then NodeB else (if first == 114 then Rnc else (if first == 108 then Link else (if first == 103 then Gen else (if first == 112 then Pair else (if first == 115 then Soft else Ue)))))))

back : (v : Subcommand) → subcommand_of (subcommand_name v) ≡ v
back Check = refl
back Encode = refl
back NodeB = refl
back Rnc = refl
back Ue = refl
back Link = refl
back Gen = refl
back Pair = refl
back Soft = refl

-- commands of one word are one
pub one_subcommand : (v w : Subcommand) → subcommand_name v ≡ subcommand_name w → v ≡ w
one_subcommand v w same = sym (back v) ∙ ap subcommand_of same ∙ back w

-- an option is not both none and some
pub none_some : {T : Type 0} (x : T) → None ≡ Some x → ⊥
none_some x same = let bad : false ≡ true = ap is_some same in true≢false (sym bad)

-- one option holds one value
pub some_one : {T : Type 0} (x y : T) → Some x ≡ Some y → x ≡ y
some_one x y same = cc

-- the words with these fields
abbrev arguments_of : Subcommand → ℕ → ℕ → Bool → Arguments
arguments_of subcommand count start quiet = record { subcommand = subcommand; count = count; start = start; quiet = quiet }

-- words with equal fields are equal
joined : (v w : Subcommand) (m n s t : ℕ) (p q : Bool)
    → v ≡ w → m ≡ n → s ≡ t → p ≡ q → arguments_of v m s p ≡ arguments_of w n t q
joined v w m n s t p q subcommand count start quiet = rw (subcommand, count, start, quiet) refl

-- words say one thing at most
pub one_meaning : (texts : List Text) (a b : Arguments) → Parses texts a → Parses texts b → a ≡ b
one_meaning texts a b first second = joined a.subcommand b.subcommand a.count b.count a.start b.start a.quiet b.quiet
    (one_subcommand a.subcommand b.subcommand (some_one _ _ (sym first.1.subcommand ∙ second.1.subcommand)))
    (one_count b.subcommand _ a.count b.count
    (subst (λ v. IsCount v (first_of (codes "count") (matches_of line_app texts)) a.count) (one_subcommand a.subcommand b.subcommand (some_one _ _ (sym first.1.subcommand ∙ second.1.subcommand))) first.1.count)
    second.1.count)
    (one_number 0 0 31 _ a.start b.start (omega arith) first.1.start second.1.start)
    (first.1.quiet ∙ sym second.1.quiet)

-- what the rows mean is what the words say
pub IfSome-says : (texts : List Text) (rows : List Row) (read : Option Arguments) → IsTaken texts
    → rows ≡ matches_of line_app texts → IfSome read (Means rows) → IfSome read (Parses texts)
IfSome-says texts rows None taken same means = tt
IfSome-says texts rows (Some words) taken same means = (taken, subst (λ r. Means r words) same means)

-- where the rows mean nothing, the words are no command
pub IfNone-says : (texts : List Text) (rows : List Row) (read : Option Arguments) → rows ≡ matches_of line_app texts
    → IfNone read ((words : Arguments) → ¬ Means rows words) → IfNone read (¬ IsCommand texts)
IfNone-says texts rows None same none = λ command.
    none command.0 (subst (λ r. Means r command.0) (sym same) command.1.1)
IfNone-says texts rows (Some words) same none = tt
