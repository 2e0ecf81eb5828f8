-- Certificates of primes: a generator modulo each, and the primes whose product is one less. `tools/write_certificates` writes this file.

use Rattle.std.proofs.Common.{[], ◌∷◌, refl}
use Prim.{tt}
use Rattle.sshcurve.specs.Primes.{IsField}
use Rattle.sshcurve.proofs.PrimeLemmas.{certified}

prime_2 : IsField 2
prime_2 = certified 2 2 1 ([]) tt refl

prime_3 : IsField 3
prime_3 = certified 2 3 2 (2 ∷ []) (prime_2, tt) refl

prime_17 : IsField 17
prime_17 = certified 5 17 3 (2 ∷ 2 ∷ 2 ∷ 2 ∷ []) (prime_2, (prime_2, (prime_2, (prime_2, tt)))) refl

prime_7 : IsField 7
prime_7 = certified 3 7 3 (2 ∷ 3 ∷ []) (prime_2, (prime_3, tt)) refl

prime_239 : IsField 239
prime_239 = certified 8 239 7 (2 ∷ 7 ∷ 17 ∷ []) (prime_2, (prime_7, (prime_17, tt))) refl

prime_479 : IsField 479
prime_479 = certified 9 479 13 (2 ∷ 239 ∷ []) (prime_2, (prime_239, tt)) refl

prime_32573 : IsField 32573
prime_32573 = certified 15 32573 2 (2 ∷ 2 ∷ 17 ∷ 479 ∷ []) (prime_2, (prime_2, (prime_17, (prime_479, tt)))) refl

prime_65147 : IsField 65147
prime_65147 = certified 16 65147 2 (2 ∷ 32573 ∷ []) (prime_2, (prime_32573, tt)) refl

prime_5 : IsField 5
prime_5 = certified 3 5 2 (2 ∷ 2 ∷ []) (prime_2, (prime_2, tt)) refl

prime_11 : IsField 11
prime_11 = certified 4 11 2 (2 ∷ 5 ∷ []) (prime_2, (prime_5, tt)) refl

prime_353 : IsField 353
prime_353 = certified 9 353 3 (2 ∷ 2 ∷ 2 ∷ 2 ∷ 2 ∷ 11 ∷ []) (prime_2, (prime_2, (prime_2, (prime_2, (prime_2, (prime_11, tt)))))) refl

prime_29 : IsField 29
prime_29 = certified 5 29 2 (2 ∷ 2 ∷ 7 ∷ []) (prime_2, (prime_2, (prime_7, tt))) refl

prime_59 : IsField 59
prime_59 = certified 6 59 2 (2 ∷ 29 ∷ []) (prime_2, (prime_29, tt)) refl

prime_487 : IsField 487
prime_487 = certified 9 487 3 (2 ∷ 3 ∷ 3 ∷ 3 ∷ 3 ∷ 3 ∷ []) (prime_2, (prime_3, (prime_3, (prime_3, (prime_3, (prime_3, tt)))))) refl

prime_57467 : IsField 57467
prime_57467 = certified 16 57467 2 (2 ∷ 59 ∷ 487 ∷ []) (prime_2, (prime_59, (prime_487, tt))) refl

prime_13 : IsField 13
prime_13 = certified 4 13 2 (2 ∷ 2 ∷ 3 ∷ []) (prime_2, (prime_2, (prime_3, tt))) refl

prime_131 : IsField 131
prime_131 = certified 8 131 2 (2 ∷ 5 ∷ 13 ∷ []) (prime_2, (prime_5, (prime_13, tt))) refl

prime_132049 : IsField 132049
prime_132049 = certified 18 132049 26 (2 ∷ 2 ∷ 2 ∷ 2 ∷ 3 ∷ 3 ∷ 7 ∷ 131 ∷ []) (prime_2, (prime_2, (prime_2, (prime_2, (prime_3, (prime_3, (prime_7, (prime_131, tt)))))))) refl

prime_43 : IsField 43
prime_43 = certified 6 43 3 (2 ∷ 3 ∷ 7 ∷ []) (prime_2, (prime_3, (prime_7, tt))) refl

prime_23 : IsField 23
prime_23 = certified 5 23 5 (2 ∷ 11 ∷ []) (prime_2, (prime_11, tt)) refl

prime_3727 : IsField 3727
prime_3727 = certified 12 3727 3 (2 ∷ 3 ∷ 3 ∷ 3 ∷ 3 ∷ 23 ∷ []) (prime_2, (prime_3, (prime_3, (prime_3, (prime_3, (prime_23, tt)))))) refl

prime_1923133 : IsField 1923133
prime_1923133 = certified 21 1923133 2 (2 ∷ 2 ∷ 3 ∷ 43 ∷ 3727 ∷ []) (prime_2, (prime_2, (prime_3, (prime_43, (prime_3727, tt))))) refl

prime_31 : IsField 31
prime_31 = certified 5 31 3 (2 ∷ 3 ∷ 5 ∷ []) (prime_2, (prime_3, (prime_5, tt))) refl

prime_53 : IsField 53
prime_53 = certified 6 53 2 (2 ∷ 2 ∷ 13 ∷ []) (prime_2, (prime_2, (prime_13, tt))) refl

prime_107 : IsField 107
prime_107 = certified 7 107 2 (2 ∷ 53 ∷ []) (prime_2, (prime_53, tt)) refl

prime_37 : IsField 37
prime_37 = certified 6 37 2 (2 ∷ 2 ∷ 3 ∷ 3 ∷ []) (prime_2, (prime_2, (prime_3, (prime_3, tt)))) refl

prime_223 : IsField 223
prime_223 = certified 8 223 3 (2 ∷ 3 ∷ 37 ∷ []) (prime_2, (prime_3, (prime_37, tt))) refl

prime_173 : IsField 173
prime_173 = certified 8 173 2 (2 ∷ 2 ∷ 43 ∷ []) (prime_2, (prime_2, (prime_43, tt))) refl

prime_4153 : IsField 4153
prime_4153 = certified 13 4153 5 (2 ∷ 2 ∷ 2 ∷ 3 ∷ 173 ∷ []) (prime_2, (prime_2, (prime_2, (prime_3, (prime_173, tt))))) refl

prime_41 : IsField 41
prime_41 = certified 6 41 6 (2 ∷ 2 ∷ 2 ∷ 5 ∷ []) (prime_2, (prime_2, (prime_2, (prime_5, tt)))) refl

prime_1723 : IsField 1723
prime_1723 = certified 11 1723 3 (2 ∷ 3 ∷ 7 ∷ 41 ∷ []) (prime_2, (prime_3, (prime_7, (prime_41, tt)))) refl

prime_430751 : IsField 430751
prime_430751 = certified 19 430751 17 (2 ∷ 5 ∷ 5 ∷ 5 ∷ 1723 ∷ []) (prime_2, (prime_5, (prime_5, (prime_5, (prime_1723, tt))))) refl

prime_31757755568855353 : IsField 31757755568855353
prime_31757755568855353 = certified 55 31757755568855353 10 (2 ∷ 2 ∷ 2 ∷ 3 ∷ 31 ∷ 107 ∷ 223 ∷ 4153 ∷ 430751 ∷ []) (prime_2, (prime_2, (prime_2, (prime_3, (prime_31, (prime_107, (prime_223, (prime_4153, (prime_430751, tt))))))))) refl

prime_19 : IsField 19
prime_19 = certified 5 19 2 (2 ∷ 3 ∷ 3 ∷ []) (prime_2, (prime_3, (prime_3, tt))) refl

prime_83 : IsField 83
prime_83 = certified 7 83 2 (2 ∷ 41 ∷ []) (prime_2, (prime_41, tt)) refl

prime_9463 : IsField 9463
prime_9463 = certified 14 9463 3 (2 ∷ 3 ∷ 19 ∷ 83 ∷ []) (prime_2, (prime_3, (prime_19, (prime_83, tt)))) refl

prime_37853 : IsField 37853
prime_37853 = certified 16 37853 2 (2 ∷ 2 ∷ 9463 ∷ []) (prime_2, (prime_2, (prime_9463, tt))) refl

prime_75707 : IsField 75707
prime_75707 = certified 17 75707 2 (2 ∷ 37853 ∷ []) (prime_2, (prime_37853, tt)) refl

prime_2437 : IsField 2437
prime_2437 = certified 12 2437 2 (2 ∷ 2 ∷ 3 ∷ 7 ∷ 29 ∷ []) (prime_2, (prime_2, (prime_3, (prime_7, (prime_29, tt))))) refl

prime_97 : IsField 97
prime_97 = certified 7 97 5 (2 ∷ 2 ∷ 2 ∷ 2 ∷ 2 ∷ 3 ∷ []) (prime_2, (prime_2, (prime_2, (prime_2, (prime_2, (prime_3, tt)))))) refl

prime_419 : IsField 419
prime_419 = certified 9 419 2 (2 ∷ 11 ∷ 19 ∷ []) (prime_2, (prime_11, (prime_19, tt))) refl

prime_569003 : IsField 569003
prime_569003 = certified 20 569003 2 (2 ∷ 7 ∷ 97 ∷ 419 ∷ []) (prime_2, (prime_7, (prime_97, (prime_419, tt)))) refl

prime_2773320623 : IsField 2773320623
prime_2773320623 = certified 32 2773320623 5 (2 ∷ 2437 ∷ 569003 ∷ []) (prime_2, (prime_2437, (prime_569003, tt))) refl

prime_72106336199 : IsField 72106336199
prime_72106336199 = certified 37 72106336199 7 (2 ∷ 13 ∷ 2773320623 ∷ []) (prime_2, (prime_13, (prime_2773320623, tt))) refl

prime_47 : IsField 47
prime_47 = certified 6 47 5 (2 ∷ 23 ∷ []) (prime_2, (prime_23, tt)) refl

prime_127 : IsField 127
prime_127 = certified 7 127 3 (2 ∷ 3 ∷ 3 ∷ 7 ∷ []) (prime_2, (prime_3, (prime_3, (prime_7, tt)))) refl

prime_103 : IsField 103
prime_103 = certified 7 103 5 (2 ∷ 3 ∷ 17 ∷ []) (prime_2, (prime_3, (prime_17, tt))) refl

prime_991 : IsField 991
prime_991 = certified 10 991 6 (2 ∷ 3 ∷ 3 ∷ 5 ∷ 11 ∷ []) (prime_2, (prime_3, (prime_3, (prime_5, (prime_11, tt))))) refl

prime_8574133 : IsField 8574133
prime_8574133 = certified 24 8574133 2 (2 ∷ 2 ∷ 3 ∷ 7 ∷ 103 ∷ 991 ∷ []) (prime_2, (prime_2, (prime_3, (prime_7, (prime_103, (prime_991, tt)))))) refl

prime_1919519569386763 : IsField 1919519569386763
prime_1919519569386763 = certified 51 1919519569386763 2 (2 ∷ 3 ∷ 7 ∷ 19 ∷ 47 ∷ 47 ∷ 127 ∷ 8574133 ∷ []) (prime_2, (prime_3, (prime_7, (prime_19, (prime_47, (prime_47, (prime_127, (prime_8574133, tt)))))))) refl

prime_75445702479781427272750846543864801 : IsField 75445702479781427272750846543864801
prime_75445702479781427272750846543864801 = certified 116 75445702479781427272750846543864801 7 (2 ∷ 2 ∷ 2 ∷ 2 ∷ 2 ∷ 3 ∷ 3 ∷ 5 ∷ 5 ∷ 75707 ∷ 72106336199 ∷ 1919519569386763 ∷ []) (prime_2, (prime_2, (prime_2, (prime_2, (prime_2, (prime_3, (prime_3, (prime_5, (prime_5, (prime_75707, (prime_72106336199, (prime_1919519569386763, tt)))))))))))) refl

prime_74058212732561358302231226437062788676166966415465897661863160754340907 : IsField 74058212732561358302231226437062788676166966415465897661863160754340907
prime_74058212732561358302231226437062788676166966415465897661863160754340907 = certified 236 74058212732561358302231226437062788676166966415465897661863160754340907 2 (2 ∷ 3 ∷ 353 ∷ 57467 ∷ 132049 ∷ 1923133 ∷ 31757755568855353 ∷ 75445702479781427272750846543864801 ∷ []) (prime_2, (prime_3, (prime_353, (prime_57467, (prime_132049, (prime_1923133, (prime_31757755568855353, (prime_75445702479781427272750846543864801, tt)))))))) refl

pub prime_field : IsField 57896044618658097711785492504343953926634992332820282019728792003956564819949
prime_field = certified 255 57896044618658097711785492504343953926634992332820282019728792003956564819949 2 (2 ∷ 2 ∷ 3 ∷ 65147 ∷ 74058212732561358302231226437062788676166966415465897661863160754340907 ∷ []) (prime_2, (prime_2, (prime_3, (prime_65147, (prime_74058212732561358302231226437062788676166966415465897661863160754340907, tt))))) refl

prime_34123 : IsField 34123
prime_34123 = certified 16 34123 2 (2 ∷ 3 ∷ 11 ∷ 11 ∷ 47 ∷ []) (prime_2, (prime_3, (prime_11, (prime_11, (prime_47, tt))))) refl

prime_409477 : IsField 409477
prime_409477 = certified 19 409477 2 (2 ∷ 2 ∷ 3 ∷ 34123 ∷ []) (prime_2, (prime_2, (prime_3, (prime_34123, tt)))) refl

prime_14741173 : IsField 14741173
prime_14741173 = certified 24 14741173 2 (2 ∷ 2 ∷ 3 ∷ 3 ∷ 409477 ∷ []) (prime_2, (prime_2, (prime_3, (prime_3, (prime_409477, tt))))) refl

prime_58964693 : IsField 58964693
prime_58964693 = certified 26 58964693 2 (2 ∷ 2 ∷ 14741173 ∷ []) (prime_2, (prime_2, (prime_14741173, tt))) refl

prime_30703 : IsField 30703
prime_30703 = certified 15 30703 3 (2 ∷ 3 ∷ 7 ∷ 17 ∷ 43 ∷ []) (prime_2, (prime_3, (prime_7, (prime_17, (prime_43, tt))))) refl

prime_79 : IsField 79
prime_79 = certified 7 79 3 (2 ∷ 3 ∷ 13 ∷ []) (prime_2, (prime_3, (prime_13, tt))) refl

prime_41081 : IsField 41081
prime_41081 = certified 16 41081 3 (2 ∷ 2 ∷ 2 ∷ 5 ∷ 13 ∷ 79 ∷ []) (prime_2, (prime_2, (prime_2, (prime_5, (prime_13, (prime_79, tt)))))) refl

prime_82163 : IsField 82163
prime_82163 = certified 17 82163 2 (2 ∷ 41081 ∷ []) (prime_2, (prime_41081, tt)) refl

prime_67 : IsField 67
prime_67 = certified 7 67 2 (2 ∷ 3 ∷ 11 ∷ []) (prime_2, (prime_3, (prime_11, tt))) refl

prime_22111 : IsField 22111
prime_22111 = certified 15 22111 6 (2 ∷ 3 ∷ 5 ∷ 11 ∷ 67 ∷ []) (prime_2, (prime_3, (prime_5, (prime_11, (prime_67, tt))))) refl

prime_132667 : IsField 132667
prime_132667 = certified 18 132667 5 (2 ∷ 3 ∷ 22111 ∷ []) (prime_2, (prime_3, (prime_22111, tt))) refl

prime_17231 : IsField 17231
prime_17231 = certified 15 17231 13 (2 ∷ 5 ∷ 1723 ∷ []) (prime_2, (prime_5, (prime_1723, tt))) refl

prime_137849 : IsField 137849
prime_137849 = certified 18 137849 3 (2 ∷ 2 ∷ 2 ∷ 17231 ∷ []) (prime_2, (prime_2, (prime_2, (prime_17231, tt)))) refl

prime_3044861653679985063343 : IsField 3044861653679985063343
prime_3044861653679985063343 = certified 72 3044861653679985063343 5 (2 ∷ 3 ∷ 11 ∷ 30703 ∷ 82163 ∷ 132667 ∷ 137849 ∷ []) (prime_2, (prime_3, (prime_11, (prime_30703, (prime_82163, (prime_132667, (prime_137849, tt))))))) refl

prime_198211423230930754013084525763697 : IsField 198211423230930754013084525763697
prime_198211423230930754013084525763697 = certified 108 198211423230930754013084525763697 5 (2 ∷ 2 ∷ 2 ∷ 2 ∷ 3 ∷ 23 ∷ 58964693 ∷ 3044861653679985063343 ∷ []) (prime_2, (prime_2, (prime_2, (prime_2, (prime_3, (prime_23, (prime_58964693, (prime_3044861653679985063343, tt)))))))) refl

prime_269 : IsField 269
prime_269 = certified 9 269 2 (2 ∷ 2 ∷ 67 ∷ []) (prime_2, (prime_2, (prime_67, tt))) refl

prime_73 : IsField 73
prime_73 = certified 7 73 5 (2 ∷ 2 ∷ 2 ∷ 3 ∷ 3 ∷ []) (prime_2, (prime_2, (prime_2, (prime_3, (prime_3, tt))))) refl

prime_307 : IsField 307
prime_307 = certified 9 307 5 (2 ∷ 3 ∷ 3 ∷ 17 ∷ []) (prime_2, (prime_3, (prime_3, (prime_17, tt)))) refl

prime_113 : IsField 113
prime_113 = certified 7 113 3 (2 ∷ 2 ∷ 2 ∷ 2 ∷ 7 ∷ []) (prime_2, (prime_2, (prime_2, (prime_2, (prime_7, tt))))) refl

prime_2939 : IsField 2939
prime_2939 = certified 12 2939 2 (2 ∷ 13 ∷ 113 ∷ []) (prime_2, (prime_13, (prime_113, tt))) refl

prime_5879 : IsField 5879
prime_5879 = certified 13 5879 11 (2 ∷ 2939 ∷ []) (prime_2, (prime_2939, tt)) refl

prime_292386187 : IsField 292386187
prime_292386187 = certified 29 292386187 2 (2 ∷ 3 ∷ 3 ∷ 3 ∷ 3 ∷ 307 ∷ 5879 ∷ []) (prime_2, (prime_3, (prime_3, (prime_3, (prime_3, (prime_307, (prime_5879, tt))))))) refl

prime_213441916511 : IsField 213441916511
prime_213441916511 = certified 38 213441916511 13 (2 ∷ 5 ∷ 73 ∷ 292386187 ∷ []) (prime_2, (prime_5, (prime_73, (prime_292386187, tt)))) refl

prime_1361 : IsField 1361
prime_1361 = certified 11 1361 3 (2 ∷ 2 ∷ 2 ∷ 2 ∷ 5 ∷ 17 ∷ []) (prime_2, (prime_2, (prime_2, (prime_2, (prime_5, (prime_17, tt)))))) refl

prime_2851 : IsField 2851
prime_2851 = certified 12 2851 2 (2 ∷ 3 ∷ 5 ∷ 5 ∷ 19 ∷ []) (prime_2, (prime_3, (prime_5, (prime_5, (prime_19, tt))))) refl

prime_3797 : IsField 3797
prime_3797 = certified 12 3797 2 (2 ∷ 2 ∷ 13 ∷ 73 ∷ []) (prime_2, (prime_2, (prime_13, (prime_73, tt)))) refl

prime_531581 : IsField 531581
prime_531581 = certified 20 531581 2 (2 ∷ 2 ∷ 5 ∷ 7 ∷ 3797 ∷ []) (prime_2, (prime_2, (prime_5, (prime_7, (prime_3797, tt))))) refl

prime_2551 : IsField 2551
prime_2551 = certified 12 2551 6 (2 ∷ 3 ∷ 5 ∷ 5 ∷ 17 ∷ []) (prime_2, (prime_3, (prime_5, (prime_5, (prime_17, tt))))) refl

prime_1224481 : IsField 1224481
prime_1224481 = certified 21 1224481 13 (2 ∷ 2 ∷ 2 ∷ 2 ∷ 2 ∷ 3 ∷ 5 ∷ 2551 ∷ []) (prime_2, (prime_2, (prime_2, (prime_2, (prime_2, (prime_3, (prime_5, (prime_2551, tt)))))))) refl

prime_1257559732178653 : IsField 1257559732178653
prime_1257559732178653 = certified 51 1257559732178653 2 (2 ∷ 2 ∷ 3 ∷ 7 ∷ 23 ∷ 531581 ∷ 1224481 ∷ []) (prime_2, (prime_2, (prime_3, (prime_7, (prime_23, (prime_531581, (prime_1224481, tt))))))) refl

prime_4434155615661930479 : IsField 4434155615661930479
prime_4434155615661930479 = certified 62 4434155615661930479 17 (2 ∷ 41 ∷ 43 ∷ 1257559732178653 ∷ []) (prime_2, (prime_41, (prime_43, (prime_1257559732178653, tt)))) refl

prime_172054593956031949258510691 : IsField 172054593956031949258510691
prime_172054593956031949258510691 = certified 88 172054593956031949258510691 2 (2 ∷ 5 ∷ 1361 ∷ 2851 ∷ 4434155615661930479 ∷ []) (prime_2, (prime_5, (prime_1361, (prime_2851, (prime_4434155615661930479, tt))))) refl

prime_19757330305831588566944191468367130476339 : IsField 19757330305831588566944191468367130476339
prime_19757330305831588566944191468367130476339 = certified 134 19757330305831588566944191468367130476339 2 (2 ∷ 269 ∷ 213441916511 ∷ 172054593956031949258510691 ∷ []) (prime_2, (prime_269, (prime_213441916511, (prime_172054593956031949258510691, tt)))) refl

prime_276602624281642239937218680557139826668747 : IsField 276602624281642239937218680557139826668747
prime_276602624281642239937218680557139826668747 = certified 138 276602624281642239937218680557139826668747 2 (2 ∷ 7 ∷ 19757330305831588566944191468367130476339 ∷ []) (prime_2, (prime_7, (prime_19757330305831588566944191468367130476339, tt))) refl

pub prime_order : IsField 7237005577332262213973186563042994240857116359379907606001950938285454250989
prime_order = certified 253 7237005577332262213973186563042994240857116359379907606001950938285454250989 2 (2 ∷ 2 ∷ 3 ∷ 11 ∷ 198211423230930754013084525763697 ∷ 276602624281642239937218680557139826668747 ∷ []) (prime_2, (prime_2, (prime_3, (prime_11, (prime_198211423230930754013084525763697, (prime_276602624281642239937218680557139826668747, tt)))))) refl
