-- The lines of the worked day of a plan, and the replies that they get. Assumes nothing.
use Rattle.std.specs.Prelude.{ℕ, List, codes}

-- files 3 trading units for 150,010.00
abbrev pub units : List ℕ
units = codes "585P84777712330  B020240102A0001980101234560000000300000015001000001                                                                                                                                    "

-- 2 at 50.00: 100,000.00
abbrev pub units_first : List ℕ
units_first = codes "585P84777712330  B020240102A00019801012345600000002000000100000000010000000100050000000000002000000100000000079                                                                                         "

-- 1 at 50.01: 50,010.00, together 150,010.00
abbrev pub units_second : List ℕ
units_second = codes "585P84777712330  B020240102A00019801012345600000001000000050010000010000000200050010000000003000000150010000079                                                                                         "

-- files 999 shares for 49,940.00
abbrev pub shares : List ℕ
shares = codes "585P84777712330  B220240102A0002980101234560000099900000004994000001                                                                                                                                    "

-- 1 at 49.98
abbrev pub shares_first : List ℕ
shares_first = codes "585P84777712330  B220240102A00029801012345600000001000000000049980010000000300049980000000001000000000049980079                                                                                         "

-- 998 at 49.99: 49,890.02, together 49,940.00
abbrev pub shares_second : List ℕ
shares_second = codes "585P84777712330  B220240102A00029801012345600000998000000049890020010000000400049990000000999000000049940000079                                                                                         "

-- files 31 shares for 1,550.00
abbrev pub rest : List ℕ
rest = codes "585P84777712330  B220240102A0003980101234560000003100000000155000001                                                                                                                                    "

-- 31 at 50.00, which completes the group: running 1,030 shares and 51,490.00
abbrev pub rest_only : List ℕ
rest_only = codes "585P84777712330  B220240102A00039801012345600000031000000001550000010000000500050000000001030000000051490000000                                                                                         "

-- deletes the odd lots
abbrev pub deletion : List ℕ
deletion = codes "585P84777712330  B220240102A0003980101234560000003100000000155000002                                                                                                                                    "

-- zeros in what is answered, and 00
abbrev pub deletion_only : List ℕ
deletion_only = codes "585P84777712330  B220240102A00039801012345600000031000000001550000020000000000000000000000000000000000000000000                                                                                         "
