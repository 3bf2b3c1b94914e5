-- Opcodes by name: the Yellow Paper, appendix H.2, and evmole's op.rs for later ones; those that the definitions use so
-- far.
use Rattle.std.specs.Prelude.{ℕ}

abbrev pub ADD : ℕ
ADD = 0x01

abbrev pub MUL : ℕ
MUL = 0x02

abbrev pub SUB : ℕ
SUB = 0x03

abbrev pub DIV : ℕ
DIV = 0x04

abbrev pub SDIV : ℕ
SDIV = 0x05

abbrev pub MOD : ℕ
MOD = 0x06

abbrev pub SMOD : ℕ
SMOD = 0x07

abbrev pub EXP : ℕ
EXP = 0x0a

abbrev pub SIGNEXTEND : ℕ
SIGNEXTEND = 0x0b

abbrev pub LT : ℕ
LT = 0x10

abbrev pub GT : ℕ
GT = 0x11

abbrev pub EQ : ℕ
EQ = 0x14

abbrev pub ISZERO : ℕ
ISZERO = 0x15

abbrev pub AND : ℕ
AND = 0x16

abbrev pub BYTE : ℕ
BYTE = 0x1a

abbrev pub SHL : ℕ
SHL = 0x1b

abbrev pub SHR : ℕ
SHR = 0x1c

abbrev pub KECCAK256 : ℕ
KECCAK256 = 0x20

abbrev pub BALANCE : ℕ
BALANCE = 0x31

abbrev pub CALLDATALOAD : ℕ
CALLDATALOAD = 0x35

abbrev pub CALLDATASIZE : ℕ
CALLDATASIZE = 0x36

abbrev pub CALLDATACOPY : ℕ
CALLDATACOPY = 0x37

abbrev pub EXTCODESIZE : ℕ
EXTCODESIZE = 0x3b

abbrev pub EXTCODECOPY : ℕ
EXTCODECOPY = 0x3c

abbrev pub EXTCODEHASH : ℕ
EXTCODEHASH = 0x3f

abbrev pub MLOAD : ℕ
MLOAD = 0x51

abbrev pub MSTORE8 : ℕ
MSTORE8 = 0x53

abbrev pub SLOAD : ℕ
SLOAD = 0x54

abbrev pub SSTORE : ℕ
SSTORE = 0x55

abbrev pub JUMPI : ℕ
JUMPI = 0x57

abbrev pub JUMPDEST : ℕ
JUMPDEST = 0x5b

abbrev pub TLOAD : ℕ
TLOAD = 0x5c

abbrev pub TSTORE : ℕ
TSTORE = 0x5d

abbrev pub PUSH0 : ℕ
PUSH0 = 0x5f

abbrev pub PUSH1 : ℕ
PUSH1 = 0x60

abbrev pub PUSH4 : ℕ
PUSH4 = 0x63

abbrev pub DUP1 : ℕ
DUP1 = 0x80

abbrev pub LOG0 : ℕ
LOG0 = 0xa0

abbrev pub LOG1 : ℕ
LOG1 = 0xa1

abbrev pub LOG2 : ℕ
LOG2 = 0xa2

abbrev pub LOG3 : ℕ
LOG3 = 0xa3

abbrev pub LOG4 : ℕ
LOG4 = 0xa4

abbrev pub CREATE : ℕ
CREATE = 0xf0

abbrev pub CALL : ℕ
CALL = 0xf1

abbrev pub CALLCODE : ℕ
CALLCODE = 0xf2

abbrev pub DELEGATECALL : ℕ
DELEGATECALL = 0xf4

abbrev pub CREATE2 : ℕ
CREATE2 = 0xf5

abbrev pub STATICCALL : ℕ
STATICCALL = 0xfa

abbrev pub REVERT : ℕ
REVERT = 0xfd

abbrev pub SELFDESTRUCT : ℕ
SELFDESTRUCT = 0xff
