-- SPDX-License-Identifier: Apache-2.0
pub mod Heap
pub mod Chains
pub mod Room
pub mod Stack
pub mod Table
pub mod Lengths
